use Rattle.std.proofs.Common.{◌≡◌, ◌++◌, map}
use Rattle.std.specs.Vec.Iter.{into_iter_items}
use Rattle.row_orders.proofs.orders.rows_of.Given as goal

abbrev pub invariant-loop-one : goal.invariant-loop-one
invariant-loop-one l = map (λ x. x.1) l.fn.ranked.items ≡ l.rows.items ++ map (λ x. x.1) (into_iter_items l.one-iterator)
