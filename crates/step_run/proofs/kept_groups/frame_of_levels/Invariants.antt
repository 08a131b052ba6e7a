use Rattle.std.proofs.Common.{◌≡◌, ◌++◌, map, drop}
use Rattle.std.specs.Prelude.{option_map}
use Rattle.apply_ast.specs.Trees.{pipe}
use Rattle.apply_ast.specs.Views.{step_of}
use Rattle.context_typing.specs.Readings.{readings}
use Rattle.context_typing.specs.Shapes.{Shape}
use Rattle.apply_meaning.specs.Meaning.{joined, level_paths, mean}
use Rattle.step_run.specs.Conditions.{LevelsRun}
use Rattle.step_run.specs.Levels.{level_made, level_on, part_of}
use Rattle.step_run.proofs.kept_groups.frame_of_levels.Given as goal

-- what is left to make makes what was made whole
abbrev pub invariant-loop-k : goal.invariant-loop-k
invariant-loop-k g l =
    (S G : Shape) → LevelsRun l.context l.root S G (map (level_on l.context.world l.frame) (level_paths l.keys.plain (part_of l.keys.rollup))) (pipe (map step_of l.steps)) l.frame
    → joined (map (level_made (mean l.context.world (readings l.context.customs) S (pipe (map step_of l.steps))) l.frame) (map (level_on l.context.world l.frame) (level_paths l.keys.plain (part_of l.keys.rollup))))
    ≡ option_map (λ rest. l.all ++ rest)
    (joined (map (level_made (mean l.context.world (readings l.context.customs) S (pipe (map step_of l.steps))) l.frame) (drop l.k (map (level_on l.context.world l.frame) (level_paths l.keys.plain (part_of l.keys.rollup))))))
