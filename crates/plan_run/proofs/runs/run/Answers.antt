use Rattle.std.proofs.Common.{◌∙◌, ap, sym, Some, arith}
use Rattle.std.proofs.lemmas.Result.{err_from_is_err_and}
use Rattle.frame_run.proofs.HeldLemmas.{held-err}
use Rattle.plan_run.proofs.runs.run.Goals as goal

pub returns-in_err-held-clause-mean : goal.returns-in_err-held-clause-mean
returns-in_err-held-clause-mean g c =
    let p = err_from_is_err_and c.from_residual.result c.from_residual.ensures.1 in
    rw (p.1, p.2) (held-err c.in_err-held.field-0.0 _ _ c.in_err-held.ensures.mean (λ n. n))

pub returns-clause-mean : goal.returns-clause-mean
returns-clause-mean g c = c.in_ok-held.ensures.mean ∙ ap Some (sym c.in_ok-made_rows.ensures.rows)

pub returns-in_err-held-clause-steps : goal.returns-in_err-held-clause-steps
returns-in_err-held-clause-steps g c = let ran = c.run_unmade.ensures.steps in omega (arith, ran)

pub returns-in_err-made_rows-clause-steps : goal.returns-in_err-made_rows-clause-steps
returns-in_err-made_rows-clause-steps g c = let ran = c.in_ok-held.ensures.steps in omega (arith, ran, c.made_rows.ensures.steps)

pub returns-clause-steps : goal.returns-clause-steps
returns-clause-steps g c = let ran = c.in_ok-held.ensures.steps in omega (arith, ran, c.made_rows.ensures.steps)
