use Rattle.std.proofs.Common.{◌≡◌, ◌+◌, ◌++◌, length, drop}
use Rattle.std.specs.Prelude.{zip}
use Rattle.std.specs.Vec.Iter.{into_iter_items}
use Rattle.apply_meaning.specs.Meaning.{level_paths}
use Rattle.step_run.specs.Levels.{part_of}
use Rattle.step_run.proofs.levels.with_paths.Given as goal

-- the levels so far and those that are left are the whole
abbrev pub invariant-loop-groups : goal.invariant-loop-groups
invariant-loop-groups l =
    (zip (level_paths l.keys.plain (part_of l.keys.rollup)) l.fn.found.items ≡ l.levels.items ++ zip (drop (length l.levels.items) (level_paths l.keys.plain (part_of l.keys.rollup))) (into_iter_items l.groups-iterator))
    × (length l.levels.items + length (into_iter_items l.groups-iterator) ≡ length (level_paths l.keys.plain (part_of l.keys.rollup)))
