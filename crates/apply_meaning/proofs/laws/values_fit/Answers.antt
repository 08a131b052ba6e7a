use Rattle.apply_meaning.proofs.MeaningProved.{loaded-values}
use Rattle.apply_meaning.proofs.laws.values_fit.Goals as goal

pub returns : goal.returns
returns c = record { value = loaded-values }
