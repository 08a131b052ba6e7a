use Rattle.std.proofs.Common.{map}
use Rattle.std.specs.Prelude.{option_map}
use Rattle.apply_ast.specs.Views.{inner_of, keys_of, pipe_of, step_of}
use Rattle.context_typing.specs.Readings.{readings}
use Rattle.rewrite_forms.specs.StepShapes.{shape_behind}
use Rattle.rewrite_places.proofs.TypedPlaces.{typed-groups, typed-keys}
use Rattle.rewrite_places.proofs.typed.grouping_is_typed.Goals as goal

pub returns-clause-keys : goal.returns-clause-keys
returns-clause-keys c = typed-keys c.args.m.now (readings c.args.c.now) (shape_behind c.args.m.now (readings c.args.c.now) c.args.start.now (map step_of c.args.before.now)) (step_of c.args.step.now) (keys_of c.args.keys.now) (inner_of (option_map pipe_of c.args.inner.now)) c.requires.grouping c.requires.typed

pub returns-clause-inner : goal.returns-clause-inner
returns-clause-inner c = typed-groups c.args.m.now (readings c.args.c.now) (shape_behind c.args.m.now (readings c.args.c.now) c.args.start.now (map step_of c.args.before.now)) (step_of c.args.step.now) (keys_of c.args.keys.now) (inner_of (option_map pipe_of c.args.inner.now)) c.requires.grouping c.requires.typed
