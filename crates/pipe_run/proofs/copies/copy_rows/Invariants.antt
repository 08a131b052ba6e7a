use Rattle.std.proofs.Common.{◌≡◌, ◌++◌, ◌+◌, ◌≤◌, drop, length}
use Rattle.pipe_run.proofs.copies.copy_rows.Given as goal

-- the copies so far and the rows that are left are the whole, what is left is what may be spent, and the count has not fallen
abbrev pub invariant-loop-row : goal.invariant-loop-row
invariant-loop-row g l =
    (l.rows ≡ l.copies.items ++ drop l.row-index l.rows)
    × (l.steps + length (drop l.row-index l.rows) ≤ l.fn.steps + length l.rows)
    × (l.fn.steps ≤ l.steps)
