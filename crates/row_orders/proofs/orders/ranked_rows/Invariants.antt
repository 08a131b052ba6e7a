use Rattle.std.proofs.Common.{◌≡◌, [], ◌∷◌, ◌++◌, IsTrue, map}
use Rattle.std.specs.List.{list_any}
use Rattle.std.specs.Vec.Iter.{into_iter_items}
use Rattle.apply_ast.specs.Views.{item_of}
use Rattle.row_orders.specs.Orders.{has_beyond, ranked}
use Rattle.apply_meaning.specs.Running.{all_of}
use Rattle.row_orders.proofs.orders.ranked_rows.Given as goal

-- the rows so far and those that are left are all; a row with `Beyond` is left
abbrev pub invariant-loop-row : goal.invariant-loop-row
invariant-loop-row l =
    (map (ranked l.store (item_of l.item ∷ [])) l.fn.rows.items ≡ l.ranked.items ++ map (ranked l.store (item_of l.item ∷ [])) (into_iter_items l.row-iterator))
    × (list_any (has_beyond l.store (item_of l.item ∷ [])) l.fn.rows.items ≡ list_any (has_beyond l.store (item_of l.item ∷ [])) (into_iter_items l.row-iterator))
    × IsTrue (all_of l.store (into_iter_items l.row-iterator))
