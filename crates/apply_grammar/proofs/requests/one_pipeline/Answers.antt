use Rattle.apply_grammar.proofs.OneTree.{one_pipeline}
use Rattle.apply_grammar.proofs.requests.one_pipeline.Goals as goal

pub returns : goal.returns
returns c = record { one = one_pipeline }
