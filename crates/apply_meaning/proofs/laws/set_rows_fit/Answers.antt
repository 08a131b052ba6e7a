use Rattle.apply_meaning.proofs.MeaningProved.{loaded-rows}
use Rattle.apply_meaning.proofs.laws.set_rows_fit.Goals as goal

pub returns : goal.returns
returns c = record { value = loaded-rows }
