use Rattle.std.proofs.Common.{◌≡◌, drop}
use Rattle.std.specs.List.{list_any}
use Rattle.edm_values.specs.Values.{is_beyond}
use Rattle.group_rollup.proofs.row_keys.has_beyond.Given as goal

-- what is past its range is left
abbrev pub invariant-loop-value : goal.invariant-loop-value
invariant-loop-value l = list_any is_beyond l.values ≡ list_any is_beyond (drop l.value-index l.values)
