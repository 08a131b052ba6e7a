use Rattle.std.proofs.Common.{ℕ, List, length}
use Rattle.edm_values.specs.declared.Value.{Value}
use Rattle.aggregate_ops.specs.Fronts.{AreGroupNumbers, AreGroupsOf, AreNumberedTo}
use Rattle.aggregate_ops.proofs.fronts.put_numbers.Given as goal

-- the rows of the groups so far have their numbers
abbrev pub invariant-loop-i : goal.invariant-loop-i
invariant-loop-i l = (n : ℕ) → (keys fronts : List (List Value)) → AreGroupsOf (length l.initial.found) keys l.groups → AreGroupNumbers n l.groups fronts l.numbers → AreNumberedTo n keys fronts l.groups l.found l.i
