use Rattle.apply_meaning.proofs.MeaningProved.{loaded-quiet}
use Rattle.apply_meaning.proofs.laws.quiet_is_not_refused.Goals as goal

pub returns : goal.returns
returns c = record { value = loaded-quiet }
