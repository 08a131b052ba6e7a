use Rattle.apply_ast.specs.Views.{climb_of, hier_of, pipe_of}
use Rattle.apply_ast.proofs.ViewEquations.{climb_of-is}
use Rattle.context_typing.specs.Readings.{readings}
use Rattle.optimiser.proofs.TypedInside.{climb-inside}
use Rattle.optimiser.proofs.inside.starts_are_typed.Goals as goal

pub returns : goal.returns
returns c =
    let k = c.args.climb.now in
    climb-inside c.args.m.now (readings c.args.c.now) c.args.shape.now k.up (hier_of k.hier) k.path (pipe_of k.inner) k.distance k.keep (climb_of k) (climb_of-is k) c.requires.typed
