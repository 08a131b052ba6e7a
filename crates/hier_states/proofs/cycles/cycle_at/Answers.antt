use Rattle.std.proofs.Common.{sym, ◌∙◌}
use Rattle.apply_ast.specs.Views.{hier_of}
use Rattle.hier_states.proofs.StateFacts.{cycle-named, cycle-unnamed}
use Rattle.hier_states.proofs.cycles.cycle_at.Goals as goal

pub returns-in-Some : goal.returns-in-Some
returns-in-Some c = c.cycle_of.ensures ∙ sym (cycle-named c.args.store.now (hier_of c.args.name.now) c.in-Some.id c.in-Some.ensures.sound c.in-Some.ensures.value)

pub returns-in-None : goal.returns-in-None
returns-in-None c = cycle-unnamed c.args.store.now (hier_of c.args.name.now) c.in-None.ensures.value
