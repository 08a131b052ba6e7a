use Rattle.std.proofs.Common.{◌∙◌, ap}
use Rattle.std.specs.Prelude.{option_map}
use Rattle.apply_ast.specs.Views.{inner_of, keys_of, pipe_of, step_of}
use Rattle.apply_ast.proofs.ViewEquations.{step_of-GroupBy}
use Rattle.context_typing.specs.Readings.{readings}
use Rattle.optimiser.proofs.TypedInside.{group-inner, inner-each}
use Rattle.optimiser.proofs.heads.step_lets.Goals as goal

pub grouping_quiet-requires-clause-typed : goal.grouping_quiet-requires-clause-typed
grouping_quiet-requires-clause-typed c =
    let m = c.args.m.now in
    let cs = readings c.args.c.now in
    inner-each m cs pipe_of c.args.shape.now c.in-GroupBy.inner
    (group-inner m cs c.args.shape.now (keys_of c.in-GroupBy.keys) (inner_of (option_map pipe_of c.in-GroupBy.inner)) (step_of c.args.step.now) (ap step_of c.in-GroupBy.is ∙ step_of-GroupBy c.in-GroupBy.keys c.in-GroupBy.inner) c.requires.typed)
