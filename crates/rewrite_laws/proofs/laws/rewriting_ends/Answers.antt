use Rattle.rewrite_laws.proofs.PlanEnds.{rewriting_ends}
use Rattle.rewrite_laws.proofs.laws.rewriting_ends.Goals as goal

pub returns : goal.returns
returns c = record { law = rewriting_ends }
