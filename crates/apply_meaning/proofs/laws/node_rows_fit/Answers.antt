use Rattle.apply_meaning.proofs.MeaningProved.{loaded-nodes}
use Rattle.apply_meaning.proofs.laws.node_rows_fit.Goals as goal

pub returns : goal.returns
returns c = record { value = loaded-nodes }
