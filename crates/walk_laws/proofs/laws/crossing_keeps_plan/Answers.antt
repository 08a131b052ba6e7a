use Rattle.walk_laws.proofs.Crossing.{crossing_keeps_plan}
use Rattle.walk_laws.proofs.laws.crossing_keeps_plan.Goals as goal

pub returns : goal.returns
returns c = record { law = crossing_keeps_plan }
