use Rattle.walk_laws.proofs.GivenPlan.{given_walk_is_plan}
use Rattle.walk_laws.proofs.laws.given_walk_is_plan.Goals as goal

pub returns : goal.returns
returns c = record { law = given_walk_is_plan }
