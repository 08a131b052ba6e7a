use Rattle.std.proofs.Common.{◌∙◌, ap, length, sym}
use Rattle.frame_run.specs.HeldRows.{owed}
use Rattle.frame_run.proofs.HeldLemmas.{first-long}
use Rattle.frame_run.proofs.held.Held.listed.Goals as goal

pub returns-in_ok-of_first-in-Set-clause-owed : goal.returns-in_ok-of_first-in-Set-clause-owed
returns-in_ok-of_first-in-Set-clause-owed c = ap length c.in_ok-of_first-in-Set.ensures.value ∙ first-long c.in-Set.set c.in-Set.n ∙ sym (ap owed c.in-Set.is)
