use Rattle.walk_laws.proofs.OutPlan.{walk_keeps_plan}
use Rattle.walk_laws.proofs.laws.walk_keeps_plan.Goals as goal

pub returns : goal.returns
returns c = record { law = walk_keeps_plan }
