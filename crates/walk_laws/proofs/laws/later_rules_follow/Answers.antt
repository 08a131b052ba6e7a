use Rattle.walk_laws.proofs.WalkPlan.{later_rules_follow}
use Rattle.walk_laws.proofs.laws.later_rules_follow.Goals as goal

pub returns : goal.returns
returns c = record { law = later_rules_follow }
