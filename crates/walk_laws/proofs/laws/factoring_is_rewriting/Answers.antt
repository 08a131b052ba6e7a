use Rattle.walk_laws.proofs.Factoring.{factoring_is_rewriting}
use Rattle.walk_laws.proofs.laws.factoring_is_rewriting.Goals as goal

pub returns : goal.returns
returns c = record { law = factoring_is_rewriting }
