use Rattle.rewrite_laws.proofs.PlanLaws.{plan_is_unique}
use Rattle.rewrite_laws.proofs.laws.plan_is_unique.Goals as goal

pub returns : goal.returns
returns c = record { law = plan_is_unique }
