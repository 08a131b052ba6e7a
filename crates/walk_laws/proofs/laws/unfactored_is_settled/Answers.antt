use Rattle.walk_laws.proofs.OutPlan.{unfactored_is_settled}
use Rattle.walk_laws.proofs.laws.unfactored_is_settled.Goals as goal

pub returns : goal.returns
returns c = record { law = unfactored_is_settled }
