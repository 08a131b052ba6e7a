use Rattle.walk_laws.proofs.ApartPlan.{walk_is_plan}
use Rattle.walk_laws.proofs.laws.walk_is_plan.Goals as goal

pub returns : goal.returns
returns c = record { law = walk_is_plan }
