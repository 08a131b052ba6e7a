use Rattle.std.proofs.Common.{sym, subst}
use Rattle.edm_model.specs.LookUps.{parent_of}
use Rattle.edm_model.specs.Soundness.{IsReference}
use Rattle.edm_model.proofs.Places.{reference_is_navigation}
use Rattle.edm_model.proofs.model.Model.hier_parent.Goals as goal

pub returns-clause-back : goal.returns-clause-back
returns-clause-back c =
    let found = c.hierarchy-hierarchy in
    let seen = subst (λ q. IsReference c.args.self.now (parent_of c.args.h q) c.args.h.of) (sym c.hierarchy.view_is) (found.ensures.sound.parents c.args.h found.result.now found.ensures.value) in
    subst (λ h. IsReference c.args.self.now (record { of = h.of; at = c.hierarchy.inside.parent }) c.args.h.of) (sym c.h.view_is) seen

pub returns-clause-there : goal.returns-clause-there
returns-clause-there c = reference_is_navigation c.args.self.now (record { of = c.h.inside.of; at = c.hierarchy.inside.parent }) c.args.h.of (returns-clause-back c)

pub returns-clause-node : goal.returns-clause-node
returns-clause-node c = c.hierarchy-hierarchy.ensures.sound.types_of_sets c.args.h.of c.requires.0
