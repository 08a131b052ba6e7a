use Rattle.std.proofs.Common.{◌∙◌, ap, map}
use Rattle.apply_ast.specs.Trees.{Step}
use Rattle.apply_ast.specs.Views.{pipe_of, pipes_in, step_of}
use Rattle.apply_ast.proofs.ViewEquations.{pipes_of-is}
use Rattle.context_typing.specs.Readings.{readings}
use Rattle.optimiser.proofs.TypedInside.{concat-inside}
use Rattle.optimiser.proofs.inside.branches_are_typed.Goals as goal

pub returns : goal.returns
returns c =
    concat-inside c.args.m.now (readings c.args.c.now) c.args.shape.now (map pipe_of (pipes_in c.args.branches.now)) (step_of c.args.step.now)
    (c.requires.concat ∙ ap Step.Concat (pipes_of-is c.args.branches.now)) c.requires.typed
