use Rattle.apply_ast.specs.Views.{step_of}
use Rattle.context_typing.specs.Readings.{readings}
use Rattle.optimiser.proofs.SteppingLemmas.{rest-typed}
use Rattle.optimiser.proofs.inside.next_is_typed.Goals as goal

pub returns : goal.returns
returns c = (rest-typed c.args.m.now (readings c.args.c.now) step_of c.args.shape.now c.args.shape.now c.args.steps.now c.args.i c.args.step.now c.requires.within c.requires.step c.requires.typed).0
