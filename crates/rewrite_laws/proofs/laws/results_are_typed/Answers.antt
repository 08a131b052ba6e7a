use Rattle.rewrite_laws.proofs.OneMeaning.{loaded-results}
use Rattle.rewrite_laws.proofs.laws.results_are_typed.Goals as goal

pub returns : goal.returns
returns c = record { law = loaded-results }
