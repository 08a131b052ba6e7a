use Rattle.std.proofs.Common.{◌∙◌, subst, sym}
use Rattle.edm_data.proofs.KeyedLemmas.{IfOk-then}
use Rattle.hier_rows.specs.HierRows.{AreNodesBelow}
use Rattle.hier_rows.proofs.ShownLaws.{once-within, roots-within}
use Rattle.hier_rows.proofs.shown.shown_nodes.Goals as goal

pub each_once-requires : goal.each_once-requires
each_once-requires c = subst (AreNodesBelow c.args.count) (sym (c.deref.ensures.value ∙ c.in_ok-places.ensures)) (roots-within c.args.count c.args.rows.now c.requires)

pub returns-clause-within : goal.returns-clause-within
returns-clause-within c =
    let within = subst (AreNodesBelow c.args.count) (sym (c.deref.ensures.value ∙ c.in_ok-places.ensures)) (roots-within c.args.count c.args.rows.now c.requires) in
    IfOk-then c.each_once.result _ _ (λ v e. subst (AreNodesBelow c.args.count) (sym e) (once-within c.args.count c.deref.result.now within)) c.each_once.ensures
