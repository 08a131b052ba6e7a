use Rattle.walk_laws.proofs.ApartPlan.{apart_walk_is_plan}
use Rattle.walk_laws.proofs.laws.apart_walk_is_plan.Goals as goal

pub returns : goal.returns
returns c = record { law = apart_walk_is_plan }
