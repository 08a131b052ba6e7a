use Rattle.aggregate_ops.proofs.NumberLemmas.{AreStepsTo}
use Rattle.aggregate_ops.proofs.fronts.next_fronts.Given as goal

-- the groups so far have their numbers
abbrev pub invariant-loop-i : goal.invariant-loop-i
invariant-loop-i l = AreStepsTo l.front l.groups l.before l.steps.keys l.firsts.items l.numbers.items l.i
