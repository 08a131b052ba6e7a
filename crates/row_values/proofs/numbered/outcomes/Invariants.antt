use Rattle.row_values.proofs.NumberedLemmas.{AreTold}
use Rattle.row_values.proofs.numbered.outcomes.Given as goal

-- the aggregates of the groups so far
abbrev pub invariant-loop-group : goal.invariant-loop-group
invariant-loop-group g l = AreTold g.P.Partial.stands_for g.P.Aggregated.method l.groups l.found.items l.group-index
