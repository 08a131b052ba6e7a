use Rattle.walk_laws.proofs.WalkPlan.{early_walk_keeps_meaning}
use Rattle.walk_laws.proofs.laws.early_walk_keeps_meaning.Goals as goal

pub returns : goal.returns
returns c = record { law = early_walk_keeps_meaning }
