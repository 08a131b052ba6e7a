use Rattle.std.proofs.Common.{◌≡◌, ◌++◌, drop}
use Rattle.std.specs.List.{list_any}
use Rattle.edm_values.specs.Values.{is_beyond}
use Rattle.row_orders.specs.Places.{numbered}
use Rattle.row_orders.proofs.sort_keys.seen_keys.Given as goal

-- the values so far and those that are left are all; a `Beyond` is left
abbrev pub invariant-loop-place : goal.invariant-loop-place
invariant-loop-place l =
    (numbered 0 l.values ≡ l.keys.items ++ numbered l.place (drop l.place l.values))
    × (list_any is_beyond l.values ≡ list_any is_beyond (drop l.place l.values))
