use Rattle.std.proofs.Common.{◌≡◌, ◌++◌, take}
use Rattle.aggregate_ops.proofs.hashed.HashedKey.put_values.Given as goal

-- the values so far stand behind the others
abbrev pub invariant-loop-k : goal.invariant-loop-k
invariant-loop-k l = l.values.items ≡ l.initial.values.items ++ take l.k l.self
