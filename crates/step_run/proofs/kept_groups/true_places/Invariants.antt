use Rattle.std.proofs.Common.{◌≡◌, false, true, map, take}
use Rattle.std.specs.Prelude.{filter}
use Rattle.std.specs.List.{list_any}
use Rattle.edm_values.specs.Values.{is_beyond, is_value, seen_value, value_in}
use Rattle.step_run.proofs.kept_groups.true_places.Given as goal

-- the places so far at which a value is true, and none so far is Beyond
abbrev pub invariant-loop-at : goal.invariant-loop-at
invariant-loop-at l =
    (l.kept.items ≡ filter (λ k. is_value true (value_in (map (λ v. seen_value v) l.values) k)) (take l.at-index l.places))
    × (list_any is_beyond (map (value_in (map (λ v. seen_value v) l.values)) (take l.at-index l.places)) ≡ false)
