use Rattle.std.proofs.Common.{◌≡◌, map, take}
use Rattle.edm_values.specs.Values.{seen_value}
use Rattle.row_values.proofs.aggregates.hashed_in_turn.Given as goal

-- the values so far
abbrev pub invariant-loop-value : goal.invariant-loop-value
invariant-loop-value l = l.found.items ≡ map (λ v. seen_value v) (take l.value-index l.values)
