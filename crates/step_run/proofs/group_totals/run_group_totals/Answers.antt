use Rattle.std.proofs.Common.{◌∙◌, ap, sym, Some, arith}
use Rattle.std.proofs.lemmas.Result.{err_from_is_err_and}
use Rattle.apply_ast.specs.Views.{step_of}
use Rattle.context_typing.specs.Readings.{readings}
use Rattle.step_run.proofs.GroupTotalRuns.{made-least, rows-refused}
use Rattle.step_run.proofs.group_totals.run_group_totals.Goals as goal

pub returns-in_err-frame-clause-mean : goal.returns-in_err-frame-clause-mean
returns-in_err-frame-clause-mean g c = λ S S' R.
    let p = err_from_is_err_and c.from_residual.result c.from_residual.ensures.1 in
    rw (p.1, p.2) (rows-refused c.in_err-frame.field-0.0 _ (c.in_err-frame.ensures.mean S S' R))

pub returns-in_err-into_rows-clause-steps : goal.returns-in_err-into_rows-clause-steps
returns-in_err-into_rows-clause-steps g c = λ S S' R.
    let x = c.args.context.now in
    let least = made-least x.world (readings x.customs) S (step_of c.args.step.now) c.args.rows.now c.in_ok-frame.frame (c.in_ok-frame.ensures.mean S S' R) in
    let spent = c.into_rows.ensures.steps in
    omega (arith, least, spent)

pub returns-clause-mean : goal.returns-clause-mean
returns-clause-mean g c = λ S S' R. c.in_ok-frame.ensures.mean S S' R ∙ ap Some (sym c.in_ok-into_rows.ensures.rows)

pub returns-clause-steps : goal.returns-clause-steps
returns-clause-steps g c = λ S S' R.
    let x = c.args.context.now in
    let least = made-least x.world (readings x.customs) S (step_of c.args.step.now) c.args.rows.now c.in_ok-frame.frame (c.in_ok-frame.ensures.mean S S' R) in
    let spent = c.into_rows.ensures.steps in
    omega (arith, least, spent)
