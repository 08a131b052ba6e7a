use Rattle.std.proofs.Common.{◌∙◌, ap, arith, length}
use Rattle.frame_run.specs.HeldRows.{owed}
use Rattle.frame_run.proofs.HeldLemmas.{first-long}
use Rattle.frame_run.proofs.held.made_rows.Goals as goal

pub returns-in_ok-of_first-in-Set-clause-steps : goal.returns-in_ok-of_first-in-Set-clause-steps
returns-in_ok-of_first-in-Set-clause-steps g c =
    let long = ap length c.in_ok-of_first-in-Set.ensures.value ∙ first-long c.in-Set.set c.in-Set.n in
    let owes = ap owed c.in-Set.is in
    let spent = c.into_rows.ensures.steps in
    omega (arith, long, owes, spent)
