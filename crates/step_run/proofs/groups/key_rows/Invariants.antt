use Rattle.std.proofs.Common.{◌≡◌, ◌++◌, ◌+◌, ◌≤◌, flat_map, length, drop}
use Rattle.step_run.specs.Levels.{level_rows}
use Rattle.step_run.proofs.groups.key_rows.Given as goal

-- the rows so far and those that are left are the whole, what is left is what may be spent, and the count has not fallen
abbrev pub invariant-loop-level : goal.invariant-loop-level
invariant-loop-level g l =
    (flat_map level_rows l.levels ≡ l.all.items ++ flat_map level_rows (drop l.level-index l.levels))
    × (l.steps + length (flat_map level_rows (drop l.level-index l.levels)) ≤ l.fn.steps + length (flat_map level_rows l.levels))
    × (l.fn.steps ≤ l.steps)
