use Rattle.std.proofs.Common.{◌≡◌, ◌+◌, ◌≤◌, length, map}
use Rattle.std.specs.Iterator.Adapters.{enumerate_count, enumerate_source}
use Rattle.std.specs.Vec.Iter.{into_iter_items}
use Rattle.apply_ast.specs.Views.{named_of}
use Rattle.row_values.proofs.RowsLeft.{RowsLeft}
use Rattle.row_values.proofs.computes.compute_in_parts.Given as goal

-- the rows that are made and those that are left, with a step for each of these
abbrev pub invariant-loop-k : goal.invariant-loop-k
invariant-loop-k g l =
    RowsLeft l.store (map named_of l.items) l.fn.rows.items l.made.items (enumerate_count l.k-iterator) (into_iter_items (enumerate_source l.k-iterator))
    × (l.steps + length (into_iter_items (enumerate_source l.k-iterator)) ≡ l.fn.steps + length l.fn.rows.items)
    × (l.fn.steps ≤ l.steps)
