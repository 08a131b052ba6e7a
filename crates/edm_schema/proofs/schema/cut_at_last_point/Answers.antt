use Rattle.edm_schema.proofs.Points.{cut_at_point, cut_without_point}
use Rattle.edm_schema.proofs.schema.cut_at_last_point.Goals as goal

pub returns-in-Some-clause-before : goal.returns-in-Some-clause-before
returns-in-Some-clause-before c = (cut_at_point _ _ _ c.in-Some.ensures.cases).0

pub returns-in-Some-clause-after : goal.returns-in-Some-clause-after
returns-in-Some-clause-after c = (cut_at_point _ _ _ c.in-Some.ensures.cases).1

pub returns-in-None-clause-before : goal.returns-in-None-clause-before
returns-in-None-clause-before c = (cut_without_point c.args.text.now c.in-None.ensures.cases).0

pub returns-in-None-clause-after : goal.returns-in-None-clause-after
returns-in-None-clause-after c = (cut_without_point c.args.text.now c.in-None.ensures.cases).1
