use Rattle.aggregate_ops.specs.Fronts.{AreFronts}
use Rattle.aggregate_ops.proofs.fronts.fronts_to.Given as goal

-- the groups are numbered by the values so far
abbrev pub invariant-loop-at : goal.invariant-loop-at
invariant-loop-at l = AreFronts l.at l.groups l.fronts.firsts.items l.fronts.numbers.items
