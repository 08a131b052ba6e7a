use Rattle.std.proofs.Common.{◌≡◌, take}
use Rattle.aggregate_ops.proofs.hashed.hashed_values.Given as goal

-- the values so far
abbrev pub invariant-loop-value : goal.invariant-loop-value
invariant-loop-value l = l.hashed.items ≡ take l.value-index l.values
