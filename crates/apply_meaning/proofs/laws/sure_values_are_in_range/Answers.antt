use Rattle.apply_meaning.proofs.MeaningProved.{loaded-sure}
use Rattle.apply_meaning.proofs.laws.sure_values_are_in_range.Goals as goal

pub returns : goal.returns
returns c = record { value = loaded-sure }
