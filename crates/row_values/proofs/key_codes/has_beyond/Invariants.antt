use Rattle.std.proofs.Common.{◌≡◌, drop, map}
use Rattle.std.specs.List.{list_any}
use Rattle.edm_values.specs.Values.{is_beyond, seen_value}
use Rattle.row_values.proofs.key_codes.has_beyond.Given as goal

abbrev pub invariant-loop-value : goal.invariant-loop-value
invariant-loop-value l = list_any is_beyond (map seen_value l.values) ≡ list_any is_beyond (map seen_value (drop l.value-index l.values))
