use Rattle.apply_meaning.proofs.MeaningProved.{loaded-mean_fits}
use Rattle.apply_meaning.proofs.laws.meanings_fit.Goals as goal

pub returns : goal.returns
returns c = record { value = loaded-mean_fits }
