use Rattle.std.proofs.Common.{◌≡◌, ◌<◌, ℕ, true, get_or}
use Rattle.edm_values.specs.declared.Value.{Value}
use Rattle.edm_values.specs.Values.{same_value}
use Rattle.aggregate_ops.specs.Columns.{key_values}
use Rattle.aggregate_ops.proofs.hashed.are_same.Given as goal

-- the values so far are the same
abbrev pub invariant-loop-k : goal.invariant-loop-k
invariant-loop-k l = (j : ℕ) → j < l.k → same_value (get_or (key_values l.a) j Value.Null) (get_or (key_values l.b) j Value.Null) ≡ true
