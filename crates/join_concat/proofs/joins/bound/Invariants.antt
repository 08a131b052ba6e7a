use Rattle.std.proofs.Common.{◌≡◌, ◌++◌, ◌+◌, ◌≤◌, map, length}
use Rattle.std.specs.Iterator.Adapters.{zip_first, zip_second}
use Rattle.std.specs.Slice.Iter.{iter_rest}
use Rattle.join_concat.specs.Joins.{bound_rows}
use Rattle.join_concat.proofs.joins.bound.Given as goal

-- the rows so far and those that are left are the whole, what is left is what may be spent, and each row so far was a step
abbrev pub invariant-loop-row : goal.invariant-loop-row
invariant-loop-row g l =
    (bound_rows l.outer l.alias l.rows (map (λ r. r.items) l.inner) ≡ l.all.items ++ bound_rows l.outer l.alias (iter_rest (zip_first l.row-iterator)) (map (λ r. r.items) (iter_rest (zip_second l.row-iterator))))
    × (l.steps + length (bound_rows l.outer l.alias (iter_rest (zip_first l.row-iterator)) (map (λ r. r.items) (iter_rest (zip_second l.row-iterator))))
    ≤ l.fn.steps + length (bound_rows l.outer l.alias l.rows (map (λ r. r.items) l.inner)))
    × (l.steps ≡ l.fn.steps + length l.all.items)
