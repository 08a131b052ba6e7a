use Rattle.apply_ast.specs.Views.{pipe_of, step_of}
use Rattle.context_typing.specs.Readings.{readings}
use Rattle.rewrite_places.proofs.TypedPlaces.{typed-onward, typed-step}
use Rattle.rewrite_places.proofs.typed.step_is_typed.Goals as goal

pub returns-clause-step : goal.returns-clause-step
returns-clause-step c = typed-step c.args.m.now (readings c.args.c.now) step_of c.args.start.now c.args.steps.now c.args.i c.args.step.now (pipe_of c.args.whole.now) c.requires.within c.requires.step c.requires.whole c.requires.typed

pub returns-clause-onward : goal.returns-clause-onward
returns-clause-onward c = typed-onward c.args.m.now (readings c.args.c.now) step_of c.args.start.now c.args.steps.now c.args.i c.args.step.now (pipe_of c.args.whole.now) c.requires.within c.requires.step c.requires.whole c.requires.typed
