use Rattle.rewrite_laws.proofs.OneMeaning.{loaded-replacement}
use Rattle.rewrite_laws.proofs.laws.replacement_keeps_meaning.Goals as goal

pub returns : goal.returns
returns c = record { law = loaded-replacement }
