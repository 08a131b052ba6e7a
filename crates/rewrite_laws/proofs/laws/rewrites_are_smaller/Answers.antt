use Rattle.rewrite_laws.proofs.RewritesSmaller.{rewrites_are_smaller}
use Rattle.rewrite_laws.proofs.laws.rewrites_are_smaller.Goals as goal

pub returns : goal.returns
returns c = record { law = rewrites_are_smaller }
