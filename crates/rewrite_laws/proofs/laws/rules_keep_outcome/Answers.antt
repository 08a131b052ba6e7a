use Rattle.rewrite_laws.proofs.OneOutcome.{rules_keep_outcome}
use Rattle.rewrite_laws.proofs.laws.rules_keep_outcome.Goals as goal

pub returns : goal.returns
returns c = record { law = rules_keep_outcome }
