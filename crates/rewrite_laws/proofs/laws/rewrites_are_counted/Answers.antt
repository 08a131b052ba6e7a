use Rattle.rewrite_laws.proofs.PlanEnds.{rewrites_are_counted}
use Rattle.rewrite_laws.proofs.laws.rewrites_are_counted.Goals as goal

pub returns : goal.returns
returns c = record { law = rewrites_are_counted }
