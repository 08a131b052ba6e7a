use Rattle.std.proofs.Common.{◌≡◌, map, take}
use Rattle.row_orders.proofs.places.places_alone.Given as goal

abbrev pub invariant-loop-one : goal.invariant-loop-one
invariant-loop-one o l = l.places.items ≡ map (λ x. x.1) (take l.one-index l.keys)
