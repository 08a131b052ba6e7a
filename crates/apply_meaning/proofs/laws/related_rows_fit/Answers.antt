use Rattle.apply_meaning.proofs.MeaningProved.{loaded-related}
use Rattle.apply_meaning.proofs.laws.related_rows_fit.Goals as goal

pub returns : goal.returns
returns c = record { value = loaded-related }
