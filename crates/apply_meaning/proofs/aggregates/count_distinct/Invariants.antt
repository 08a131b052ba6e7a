use Rattle.std.proofs.Common.{◌≡◌, take, map}
use Rattle.edm_values.specs.Lists.{distinct}
use Rattle.edm_values.specs.Values.{same_value, seen_value}
use Rattle.apply_meaning.proofs.SumLaws.{kept}
use Rattle.apply_meaning.proofs.aggregates.count_distinct.Given as goal

-- the distinct values so far
abbrev pub invariant-loop-value : goal.invariant-loop-value
invariant-loop-value l = l.seen.keys ≡ distinct same_value (kept (map seen_value (take l.value-index l.values)))
