use Rattle.std.proofs.Common.{◌≡◌, ◌++◌, length, map, drop, IsTrue}
use Rattle.std.specs.Prelude.{nat_lt, option_map}
use Rattle.std.specs.List.{list_all}
use Rattle.apply_ast.specs.Trees.{pipe}
use Rattle.apply_ast.specs.Views.{step_of}
use Rattle.context_typing.specs.Readings.{readings}
use Rattle.context_typing.specs.Shapes.{Shape}
use Rattle.apply_meaning.specs.Meaning.{joined, mean}
use Rattle.group_rollup.specs.Groupings.{groups}
use Rattle.step_run.specs.Conditions.{GroupRuns}
use Rattle.step_run.specs.KeptGroups.{kept_rows}
use Rattle.step_run.specs.Levels.{group_made, level_on}
use Rattle.step_run.proofs.kept_groups.kept_of.Given as goal

-- what was kept are places of the list, and what is left to make makes what was made whole
abbrev pub invariant-loop-k : goal.invariant-loop-k
invariant-loop-k g l =
    IsTrue (list_all (λ k. nat_lt k (length l.rows)) l.kept.places.items)
    × IsTrue (list_all (λ k. nat_lt k (length l.rows)) l.kept.heads.items)
    × (length l.kept.places.items ≡ length l.kept.heads.items)
    × ((S G : Shape) → GroupRuns l.context l.root S G (level_on l.context.world l.rows l.paths) (pipe (map step_of l.steps)) l.rows
    → joined (map (group_made l.paths (mean l.context.world (readings l.context.customs) S (pipe (map step_of l.steps))) l.rows) (groups l.context.world l.paths l.rows))
    ≡ option_map (λ rest. kept_rows l.context.world l.paths l.rows l.kept ++ rest) (joined (map (group_made l.paths (mean l.context.world (readings l.context.customs) S (pipe (map step_of l.steps))) l.rows) (drop l.k (groups l.context.world l.paths l.rows)))))
