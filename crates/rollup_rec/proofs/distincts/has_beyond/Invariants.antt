use Rattle.std.proofs.Common.{◌≡◌, drop, map}
use Rattle.std.specs.List.{list_any}
use Rattle.edm_values.specs.Values.{is_beyond, seen_value}
use Rattle.rollup_rec.proofs.distincts.has_beyond.Given as goal

-- it is whether one of those that are left is past its range
abbrev pub invariant-loop-value : goal.invariant-loop-value
invariant-loop-value l = list_any is_beyond (map seen_value l.values) ≡ list_any is_beyond (map seen_value (drop l.value-index l.values))
