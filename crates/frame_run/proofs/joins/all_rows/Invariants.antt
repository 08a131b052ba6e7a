use Rattle.std.proofs.Common.{◌≡◌, ◌++◌, ◌+◌, ◌≤◌, map}
use Rattle.std.specs.Prelude.{sum}
use Rattle.std.specs.Vec.Iter.{into_iter_items}
use Rattle.frame_run.specs.HeldRows.{owed, rows_of}
use Rattle.frame_run.proofs.joins.all_rows.Given as goal

-- the rows so far and those of what is left are the whole, and what was counted and what is still to be made are no more than was to be made
abbrev pub invariant-loop-held : goal.invariant-loop-held
invariant-loop-held g l =
    (map rows_of l.fn.results.items ≡ map (λ v. v.items) l.all.items ++ map rows_of (into_iter_items l.held-iterator))
    × (l.steps + sum (map owed (into_iter_items l.held-iterator)) ≤ l.fn.steps + sum (map owed l.fn.results.items))
    × (l.fn.steps ≤ l.steps)
