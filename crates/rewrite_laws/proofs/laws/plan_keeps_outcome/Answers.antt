use Rattle.rewrite_laws.proofs.OneOutcome.{plan_keeps_outcome}
use Rattle.rewrite_laws.proofs.laws.plan_keeps_outcome.Goals as goal

pub returns : goal.returns
returns c = record { law = plan_keeps_outcome }
