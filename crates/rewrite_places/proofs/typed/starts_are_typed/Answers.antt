use Rattle.std.proofs.Common.{map}
use Rattle.apply_ast.specs.Views.{climb_of, hier_of, pipe_of, step_of}
use Rattle.apply_ast.proofs.ViewEquations.{climb_of-is}
use Rattle.context_typing.specs.Readings.{readings}
use Rattle.rewrite_forms.specs.StepShapes.{shape_behind}
use Rattle.rewrite_places.proofs.TypedPlaces.{typed-starts}
use Rattle.rewrite_places.proofs.typed.starts_are_typed.Goals as goal

pub returns : goal.returns
returns c =
    let k = c.args.climb.now in
    typed-starts c.args.m.now (readings c.args.c.now) (shape_behind c.args.m.now (readings c.args.c.now) c.args.start.now (map step_of c.args.before.now)) c.args.shape.now (climb_of k) k.up (hier_of k.hier) k.path (pipe_of k.inner) k.distance k.keep (climb_of-is k) c.requires.shape c.requires.typed
