use Rattle.std.proofs.Common.{◌≡◌, ◌+◌, ◌≤◌, ◌++◌, drop, map, Some}
use Rattle.std.specs.Prelude.{flat_map, option_map, sum}
use Rattle.apply_ast.specs.Trees.{pipe}
use Rattle.edm_values.specs.Lists.{all_some}
use Rattle.edm_model.specs.LookUps.{navigation_on}
use Rattle.edm_model.specs.Models.{Navigation}
use Rattle.apply_ast.specs.Views.{inner_of, pipe_of, step_of}
use Rattle.context_typing.specs.Readings.{readings}
use Rattle.context_typing.specs.Shapes.{Shape}
use Rattle.apply_meaning.specs.Meaning.{joined, mean}
use Rattle.hier_states.specs.NamedHierarchies.{hierarchies}
use Rattle.pipe_run.specs.SeveralRuns.{BranchesRun, RelatedRun}
use Rattle.step_run.specs.Conditions.{AreReady, GroupRuns, LevelsRun, RunsFrom, charge_of}
use Rattle.step_run.specs.Costs.{application, cost}
use Rattle.step_run.specs.Levels.{group_made, level_lists, level_made}
use Rattle.pipe_run.proofs.ConcatLemmas.{branch_charge}
use Rattle.pipe_run.proofs.RelatedLemmas.{related_charge, related_mean}
use Rattle.frame_run.specs.HeldRows.{owed, rows_of}
use Rattle.frame_run.proofs.held.+held.Given as goal

-- the hierarchies of the rest are ready, for each shape on which the pipeline is typed there is one on which the rest is, with the same meaning and what is left to count, and the count has not fallen
abbrev pub invariant-held_after-loop-i : goal.invariant-held_after-loop-i
invariant-held_after-loop-i g l =
    AreReady l.context (hierarchies (pipe (map step_of (drop l.i l.all))))
    × ((S S' : Shape) → RunsFrom l.context l.fn.root S S' (pipe_of l.pipe) (rows_of l.fn.held)
    → (T : Shape) × RunsFrom l.context l.root T S' (pipe (map step_of (drop l.i l.all))) (rows_of l.held)
    × (mean l.context.world (readings l.context.customs) S (pipe_of l.pipe) (rows_of l.fn.held) ≡ mean l.context.world (readings l.context.customs) T (pipe (map step_of (drop l.i l.all))) (rows_of l.held))
    × (l.steps + owed l.held + cost l.context.world (readings l.context.customs) T (pipe (map step_of (drop l.i l.all))) (rows_of l.held) ≤ l.fn.steps + owed l.fn.held + cost l.context.world (readings l.context.customs) S (pipe_of l.pipe) (rows_of l.fn.held)))
    × (l.fn.steps ≤ l.steps)

-- the count has not fallen, what was made and what the branches that are left give are what all give, and what is owed and what is left cost what all do
abbrev pub invariant-run_branches-loop-k : goal.invariant-run_branches-loop-k
invariant-run_branches-loop-k g l =
    (l.fn.steps ≤ l.steps)
    × ((S : Shape) → BranchesRun l.context l.root S (map pipe_of l.branches) l.frame
    → (joined (map (λ p. mean l.context.world (readings l.context.customs) S p l.frame) (map pipe_of l.branches))
    ≡ option_map (λ rest. rows_of l.all ++ rest) (joined (map (λ p. mean l.context.world (readings l.context.customs) S p l.frame) (drop l.k (map pipe_of l.branches)))))
    × (l.steps + owed l.all + sum (map (branch_charge l.context.world (readings l.context.customs) S l.frame) (drop l.k (map pipe_of l.branches)))
    ≤ l.fn.steps + sum (map (branch_charge l.context.world (readings l.context.customs) S l.frame) (map pipe_of l.branches))))

-- the count has not fallen, what was made and what the instances that are left come to are what all come to, and what is owed and what is left cost what all do
abbrev pub invariant-run_related-loop-k : goal.invariant-run_related-loop-k
invariant-run_related-loop-k g l =
    (l.fn.steps ≤ l.steps)
    × ((v : Navigation) (T : Shape) → navigation_on l.context.world.model l.nav ≡ Some v → RelatedRun l.context v T (inner_of (option_map pipe_of l.inner)) l.frame
    → (all_some (map (related_mean l.context.world (readings l.context.customs) v (inner_of (option_map pipe_of l.inner))) l.frame)
    ≡ option_map (λ rest. map rows_of l.all.items ++ rest) (all_some (map (related_mean l.context.world (readings l.context.customs) v (inner_of (option_map pipe_of l.inner))) (drop l.k l.frame))))
    × (l.steps + sum (map owed l.all.items) + sum (map (related_charge l.context.world (readings l.context.customs) v (inner_of (option_map pipe_of l.inner))) (drop l.k l.frame))
    ≤ l.fn.steps + sum (map (related_charge l.context.world (readings l.context.customs) v (inner_of (option_map pipe_of l.inner))) l.frame)))

-- the count has not fallen, and what is left to do makes what was made whole, and costs what is left
abbrev pub invariant-run_groups-loop-k : goal.invariant-run_groups-loop-k
invariant-run_groups-loop-k g l =
    (l.fn.steps ≤ l.steps)
    × ((S G : Shape) → GroupRuns l.context l.root S G l.level (pipe_of l.pipe) l.rows
    → (joined (map (group_made l.level.0 (mean l.context.world (readings l.context.customs) S (pipe_of l.pipe)) l.rows) l.level.1)
    ≡ option_map (λ rest. l.all.items ++ rest) (joined (map (group_made l.level.0 (mean l.context.world (readings l.context.customs) S (pipe_of l.pipe)) l.rows) (drop l.k l.level.1))))
    × (l.steps + sum (map (charge_of l.context S (pipe_of l.pipe) l.rows) (drop l.k l.level.1)) ≤ l.fn.steps + sum (map (charge_of l.context S (pipe_of l.pipe) l.rows) l.level.1)))

-- the same of the levels
abbrev pub invariant-run_levels-loop-level : goal.invariant-run_levels-loop-level
invariant-run_levels-loop-level g l =
    (l.fn.steps ≤ l.steps)
    × ((S G : Shape) → LevelsRun l.context l.root S G l.levels (pipe_of l.pipe) l.rows
    → (joined (map (level_made (mean l.context.world (readings l.context.customs) S (pipe_of l.pipe)) l.rows) l.levels)
    ≡ option_map (λ rest. l.all.items ++ rest) (joined (map (level_made (mean l.context.world (readings l.context.customs) S (pipe_of l.pipe)) l.rows) (drop l.level-index l.levels))))
    × (l.steps + sum (map (application (cost l.context.world (readings l.context.customs) S (pipe_of l.pipe)) (mean l.context.world (readings l.context.customs) S (pipe_of l.pipe))) (flat_map (level_lists l.rows) (drop l.level-index l.levels)))
    ≤ l.fn.steps + sum (map (application (cost l.context.world (readings l.context.customs) S (pipe_of l.pipe)) (mean l.context.world (readings l.context.customs) S (pipe_of l.pipe))) (flat_map (level_lists l.rows) l.levels))))
