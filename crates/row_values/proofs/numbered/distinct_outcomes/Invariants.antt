use Rattle.edm_values.specs.declared.Method.TheVariants as by
use Rattle.aggregate_ops.specs.Partials.{IsDistinctOf}
use Rattle.row_values.proofs.NumberedLemmas.{AreTold}
use Rattle.row_values.proofs.numbered.distinct_outcomes.Given as goal

-- the counts of the groups so far
abbrev pub invariant-loop-group : goal.invariant-loop-group
invariant-loop-group l = AreTold IsDistinctOf by.CountDistinct l.groups l.found.items l.group-index
