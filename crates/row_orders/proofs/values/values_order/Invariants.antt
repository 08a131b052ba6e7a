use Rattle.std.proofs.Common.{◌≡◌, map, drop}
use Rattle.apply_ast.specs.Views.{item_of}
use Rattle.row_orders.specs.Orders.{values_cmp}
use Rattle.row_orders.proofs.values.values_order.Given as goal

-- by the items so far the two lists tie
abbrev pub invariant-loop-k : goal.invariant-loop-k
invariant-loop-k l = values_cmp (map item_of l.items) l.a l.b ≡ values_cmp (map item_of (drop l.k l.items)) (drop l.k l.a) (drop l.k l.b)
