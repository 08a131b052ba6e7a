use Rattle.rewrite_laws.proofs.OneMeaning.{loaded-firsts}
use Rattle.rewrite_laws.proofs.laws.first_rewrites_keep_meaning.Goals as goal

pub returns : goal.returns
returns c = record { law = loaded-firsts }
