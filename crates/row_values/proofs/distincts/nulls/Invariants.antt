use Rattle.std.proofs.Common.{◌≡◌, map, take}
use Rattle.edm_values.specs.Values.{is_null}
use Rattle.row_values.proofs.distincts.nulls.Given as goal

-- those so far
abbrev pub invariant-loop-value : goal.invariant-loop-value
invariant-loop-value l = l.found.items ≡ map is_null (take l.value-index l.values)
