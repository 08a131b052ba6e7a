use Rattle.std.proofs.lemmas.Result.{err_from_is_err_and}
use Rattle.step_run.proofs.GroupTotalRuns.{found-refused}
use Rattle.step_run.proofs.kept_groups.kept_frame.Goals as goal

pub returns-in_err-made-in-Some : goal.returns-in_err-made-in-Some
returns-in_err-made-in-Some g c = record {
  mean = λ S S' R.
      let p = err_from_is_err_and c.from_residual.result c.from_residual.ensures.1 in
      rw (p.1, p.2) (found-refused c.in_err-made-in-Some.field-0.0 _ (c.in_err-made-in-Some.ensures.mean S S' R));
}
