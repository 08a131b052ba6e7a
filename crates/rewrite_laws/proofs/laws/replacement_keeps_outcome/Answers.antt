use Rattle.rewrite_laws.proofs.OneOutcome.{replacement_keeps_outcome}
use Rattle.rewrite_laws.proofs.laws.replacement_keeps_outcome.Goals as goal

pub returns : goal.returns
returns c = record { law = replacement_keeps_outcome }
