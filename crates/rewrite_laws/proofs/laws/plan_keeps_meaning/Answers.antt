use Rattle.rewrite_laws.proofs.OneMeaning.{loaded-plan}
use Rattle.rewrite_laws.proofs.laws.plan_keeps_meaning.Goals as goal

pub returns : goal.returns
returns c = record { law = loaded-plan }
