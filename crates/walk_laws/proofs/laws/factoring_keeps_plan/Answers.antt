use Rattle.walk_laws.proofs.OutPlan.{factoring_keeps_plan}
use Rattle.walk_laws.proofs.laws.factoring_keeps_plan.Goals as goal

pub returns : goal.returns
returns c = record { law = factoring_keeps_plan }
