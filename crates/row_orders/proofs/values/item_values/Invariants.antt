use Rattle.std.proofs.Common.{◌≡◌, ◌++◌, map, drop}
use Rattle.std.specs.List.{list_any}
use Rattle.edm_values.specs.Values.{is_beyond}
use Rattle.apply_ast.specs.Views.{item_of}
use Rattle.row_orders.specs.Orders as spec
use Rattle.row_orders.proofs.values.item_values.Given as goal

-- the values so far and those of the items that are left are all; what is `Beyond` is left
abbrev pub invariant-loop-item : goal.invariant-loop-item
invariant-loop-item l =
    (spec.item_values l.store (map item_of l.items) l.row ≡ l.values.items ++ spec.item_values l.store (map item_of (drop l.item-index l.items)) l.row)
    × (list_any is_beyond (spec.item_values l.store (map item_of l.items) l.row) ≡ list_any is_beyond (spec.item_values l.store (map item_of (drop l.item-index l.items)) l.row))
