use Rattle.std.proofs.Common.{map}
use Rattle.apply_ast.specs.Views.{pipes_of, step_of}
use Rattle.context_typing.specs.Readings.{readings}
use Rattle.rewrite_forms.specs.StepShapes.{shape_behind}
use Rattle.rewrite_places.proofs.TypedPlaces.{typed-branches}
use Rattle.rewrite_places.proofs.typed.branches_are_typed.Goals as goal

pub returns : goal.returns
returns c = typed-branches c.args.m.now (readings c.args.c.now) (shape_behind c.args.m.now (readings c.args.c.now) c.args.start.now (map step_of c.args.before.now)) c.args.shape.now (pipes_of c.args.branches.now) c.requires.shape c.requires.typed
