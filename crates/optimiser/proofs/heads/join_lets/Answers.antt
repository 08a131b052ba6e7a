use Rattle.std.proofs.Common.{sym, ◌∙◌, ap}
use Rattle.std.specs.Prelude.{option_map}
use Rattle.apply_ast.specs.Views.{inner_of, join_of, pipe_of}
use Rattle.apply_ast.specs.declared.steps.JoinStep.{out-JoinStep}
use Rattle.apply_ast.proofs.ViewEquations.{join_of-is}
use Rattle.context_typing.specs.Readings.{readings}
use Rattle.optimiser.specs.WalkForms.{inner_typed}
use Rattle.optimiser.proofs.TypedInside.{inner-each, join-inside}
use Rattle.optimiser.proofs.heads.join_lets.Goals as goal

pub inner_quiet-requires-clause-typed : goal.inner_quiet-requires-clause-typed
inner_quiet-requires-clause-typed c =
    let m = c.args.m.now in
    let cs = readings c.args.c.now in
    let j = out-JoinStep c.args.join.now in
    inner-each m cs pipe_of c.set_shape-start.result j.inner
    (ap (λ Z. inner_typed m cs Z (inner_of (option_map pipe_of j.inner))) c.set_shape-start.ensures.value
    ∙ join-inside m cs c.args.shape.now j.outer j.nav j.alias (inner_of (option_map pipe_of j.inner)) (join_of c.args.join.now) c.in-Some.of (join_of-is c.args.join.now) (sym c.in-Some.is ∙ c.join_target.ensures.value) c.requires.typed)
