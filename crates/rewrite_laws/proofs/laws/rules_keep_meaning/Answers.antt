use Rattle.rewrite_laws.proofs.OneMeaning.{loaded-rules}
use Rattle.rewrite_laws.proofs.laws.rules_keep_meaning.Goals as goal

pub returns : goal.returns
returns c = record { law = loaded-rules }
