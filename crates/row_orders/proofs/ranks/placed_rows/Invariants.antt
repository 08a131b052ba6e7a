use Rattle.std.proofs.Common.{◌≡◌, ◌++◌, map, drop}
use Rattle.std.specs.List.{list_any}
use Rattle.apply_ast.specs.Views.{item_of}
use Rattle.row_orders.specs.Orders.{has_beyond}
use Rattle.row_orders.specs.Ranks.{placed_from}
use Rattle.row_orders.proofs.ranks.placed_rows.Given as goal

-- the places so far and those that are left are all; a row with `Beyond` is left
abbrev pub invariant-loop-place : goal.invariant-loop-place
invariant-loop-place l =
    (placed_from l.store (map item_of l.items) 0 l.rows ≡ l.placed.items ++ placed_from l.store (map item_of l.items) l.place (drop l.place l.rows))
    × (list_any (has_beyond l.store (map item_of l.items)) l.rows ≡ list_any (has_beyond l.store (map item_of l.items)) (drop l.place l.rows))
