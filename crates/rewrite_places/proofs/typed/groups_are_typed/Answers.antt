use Rattle.std.proofs.Common.{ap, map}
use Rattle.std.specs.Prelude.{option_map}
use Rattle.apply_ast.specs.Views.{inner_of, pipe_of, step_of}
use Rattle.context_typing.specs.Readings.{readings}
use Rattle.context_typing.specs.Typing.{no_shape}
use Rattle.rewrite_forms.specs.StepShapes.{shape_behind}
use Rattle.rewrite_places.proofs.TypedPlaces.{typed-inner}
use Rattle.rewrite_places.proofs.typed.groups_are_typed.Goals as goal

pub returns : goal.returns
returns c =
    typed-inner c.args.m.now (readings c.args.c.now) (shape_behind c.args.m.now (readings c.args.c.now) c.args.start.now (map step_of c.args.before.now)) c.args.shape.now no_shape (inner_of (option_map pipe_of c.args.inner.now)) (pipe_of c.args.groups.now) (ap (λ i. inner_of (option_map pipe_of i)) c.requires.groups) c.requires.shape c.requires.typed
