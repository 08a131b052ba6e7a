use Rattle.apply_ast.specs.Views.{step_of}
use Rattle.context_typing.specs.Readings.{readings}
use Rattle.optimiser.proofs.WalkedSteps.{known-inside, there-inside}
use Rattle.optimiser.proofs.inside.place_is_there.Goals as goal

pub returns-clause-within : goal.returns-clause-within
returns-clause-within c = there-inside c.args.m.now (readings c.args.c.now) step_of c.args.steps.now c.args.known.now c.args.at c.args.shape.now c.requires.there

pub returns-clause-known : goal.returns-clause-known
returns-clause-known c = known-inside c.args.m.now (readings c.args.c.now) step_of c.args.steps.now c.args.known.now c.args.at c.args.shape.now c.requires.there
