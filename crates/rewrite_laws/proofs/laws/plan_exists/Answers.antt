use Rattle.rewrite_laws.proofs.PlanEnds.{plan_exists}
use Rattle.rewrite_laws.proofs.laws.plan_exists.Goals as goal

pub returns : goal.returns
returns c = record { law = plan_exists }
