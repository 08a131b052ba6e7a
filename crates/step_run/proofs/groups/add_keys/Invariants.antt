use Rattle.std.proofs.Common.{◌≡◌, ◌++◌, ◌+◌, ◌≤◌, map, length, drop}
use Rattle.step_run.specs.Levels.{group_row, level_rows}
use Rattle.step_run.proofs.groups.add_keys.Given as goal

-- the rows so far and those that are left are the whole, what is left is what may be spent, and the count has not fallen
abbrev pub invariant-loop-k : goal.invariant-loop-k
invariant-loop-k g l =
    (l.fn.all.items ++ level_rows l.level ≡ l.all.items ++ map (group_row l.level.0) (drop l.k l.level.1))
    × (l.steps + length (drop l.k l.level.1) ≤ l.fn.steps + length l.level.1)
    × (l.fn.steps ≤ l.steps)
