use Rattle.std.proofs.Common.{◌≡◌, ◌++◌, ◌+◌, ◌≤◌, IsTrue, map, length}
use Rattle.std.specs.Vec.Iter.{into_iter_items}
use Rattle.apply_ast.specs.Views.{named_of}
use Rattle.apply_meaning.specs.Instances.{extended}
use Rattle.apply_meaning.specs.Running.{all_of, all_free, new_columns}
use Rattle.apply_meaning.proofs.computes.compute_rows.Given as goal

abbrev pub invariant-loop-row : goal.invariant-loop-row
invariant-loop-row g l =
    (map (λ i. extended i (new_columns l.store (map named_of l.items) i)) l.fn.rows.items
    ≡ l.made.items ++ map (λ i. extended i (new_columns l.store (map named_of l.items) i)) (into_iter_items l.row-iterator))
    × IsTrue (all_of l.store (into_iter_items l.row-iterator))
    × IsTrue (all_free l.store (map named_of l.items) (into_iter_items l.row-iterator))
    × (l.steps + length (into_iter_items l.row-iterator) ≡ l.fn.steps + length l.fn.rows.items)
    × (l.fn.steps ≤ l.steps)
