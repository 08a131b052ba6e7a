use Rattle.std.proofs.Common.{sym, ◌∙◌, subst}
use Rattle.apply_ast.specs.Views.{pipe_of}
use Rattle.edm_model.specs.Soundness.{IsSound}
use Rattle.apply_ast.specs.NamedHierarchies.{hierarchies}
use Rattle.hier_states.proofs.StateFacts.{all-ready, cycles-there}
use Rattle.hier_states.proofs.cycles.first_cycle.Goals as goal

pub returns-clause-there : goal.returns-clause-there
returns-clause-there c = cycles-there c.args.store.now (hierarchies (pipe_of c.args.pipe.now)) c.cycle_in.result c.cycle_in.ensures

pub returns-clause-ready : goal.returns-clause-ready
returns-clause-ready c = λ none.
    all-ready c.args.store.now c.args.hiers.now (hierarchies (pipe_of c.args.pipe.now)) (subst IsSound c.model.ensures.value c.sets-sets.ensures.sound) c.requires (sym c.cycle_in.ensures ∙ none)
