use Rattle.walk_laws.proofs.WalkPlan.{early_walk_is_plan}
use Rattle.walk_laws.proofs.laws.early_walk_is_plan.Goals as goal

pub returns : goal.returns
returns c = record { law = early_walk_is_plan }
