use Rattle.std.proofs.Common.{◌≡◌, ◌++◌, List, flat_map, drop, map}
use Rattle.edm_values.specs.Names.{Path}
use Rattle.apply_ast.specs.Views.{agg_of}
use Rattle.apply_meaning.specs.Instances.{Instance}
use Rattle.apply_meaning.specs.Meaning.{level_paths}
use Rattle.step_run.specs.GroupTotals.{level_totals}
use Rattle.step_run.specs.Levels.{level_on, part_of}
use Rattle.step_run.proofs.group_totals.frame_of_levels.Given as goal

-- the rows so far and those that are left are the whole
abbrev pub invariant-loop-k : goal.invariant-loop-k
invariant-loop-k g l =
    let all = level_paths l.keys.plain (part_of l.keys.rollup) in
    let made : List Path → List Instance = λ level. level_totals l.context.world (map agg_of l.items) l.rows (level_on l.context.world l.rows level) in
    flat_map made all ≡ l.all ++ flat_map made (drop l.k all)
