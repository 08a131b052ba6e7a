use Rattle.std.proofs.Common.{◌≡◌, ◌+◌, ◌≤◌, ◌++◌, drop, map}
use Rattle.std.specs.Prelude.{option_map, sum, flat_map, Some}
use Rattle.edm_values.specs.Lists.{all_some}
use Rattle.edm_model.specs.LookUps.{navigation_on}
use Rattle.edm_model.specs.Models.{Navigation}
use Rattle.apply_ast.specs.Trees.{Key, pipe}
use Rattle.apply_ast.specs.Views.{inner_of, key_of, keys_from, pipe_of, step_of}
use Rattle.context_typing.specs.Readings.{readings}
use Rattle.context_typing.specs.Shapes.{Shape}
use Rattle.apply_meaning.specs.Meaning.{joined, mean}
use Rattle.hier_states.specs.NamedHierarchies.{hierarchies}
use Rattle.pipe_run.proofs.ConcatLemmas.{branch_charge}
use Rattle.pipe_run.proofs.RelatedLemmas.{related_charge, related_mean}
use Rattle.pipe_run.specs.SeveralRuns.{BranchesRun, RelatedRun}
use Rattle.step_run.specs.Conditions.{AreReady, GroupRuns, LevelsRun, RunsFrom, charge_of}
use Rattle.step_run.specs.Costs.{application, cost}
use Rattle.step_run.specs.Levels.{group_made, level_lists, level_made}
use Rattle.step_run.specs.RecursiveKeys.{HasKey, are_flat_keys}
use Rattle.pipe_run.proofs.pipes.+run.Given as goal

-- the hierarchies of the rest are ready, for each shape on which the pipeline is typed there is one on which the rest is, with the same meaning and the cost that is left, and the count has not fallen
abbrev pub invariant-run_steps-loop-i : goal.invariant-run_steps-loop-i
invariant-run_steps-loop-i g l =
    AreReady l.context (hierarchies (pipe (map step_of (drop l.i l.all))))
    × ((S S' : Shape) → RunsFrom l.context l.fn.root S S' (pipe (map step_of l.all)) l.fn.rows.items
    → (T : Shape) × RunsFrom l.context l.root T S' (pipe (map step_of (drop l.i l.all))) l.rows.items
    × (mean l.context.world (readings l.context.customs) S (pipe (map step_of l.all)) l.fn.rows.items ≡ mean l.context.world (readings l.context.customs) T (pipe (map step_of (drop l.i l.all))) l.rows.items)
    × (l.steps + cost l.context.world (readings l.context.customs) T (pipe (map step_of (drop l.i l.all))) l.rows.items ≤ l.fn.steps + cost l.context.world (readings l.context.customs) S (pipe (map step_of l.all)) l.fn.rows.items))
    × (l.fn.steps ≤ l.steps)

-- the count has not fallen, and what is left to do makes what was made whole, and costs what is left
abbrev pub invariant-run_groups-loop-k : goal.invariant-run_groups-loop-k
invariant-run_groups-loop-k g l =
    (l.fn.steps ≤ l.steps)
    × ((S G : Shape) → GroupRuns l.context l.root S G l.level (pipe_of l.pipe) l.rows
    → (joined (map (group_made l.level.0 (mean l.context.world (readings l.context.customs) S (pipe_of l.pipe)) l.rows) l.level.1)
    ≡ option_map (λ rest. l.all.items ++ rest) (joined (map (group_made l.level.0 (mean l.context.world (readings l.context.customs) S (pipe_of l.pipe)) l.rows) (drop l.k l.level.1))))
    × (l.steps + sum (map (charge_of l.context S (pipe_of l.pipe) l.rows) (drop l.k l.level.1)) ≤ l.fn.steps + sum (map (charge_of l.context S (pipe_of l.pipe) l.rows) l.level.1)))

-- the same of the levels
abbrev pub invariant-run_levels-loop-i : goal.invariant-run_levels-loop-i
invariant-run_levels-loop-i g l =
    (l.fn.steps ≤ l.steps)
    × ((S G : Shape) → LevelsRun l.context l.root S G l.levels (pipe_of l.pipe) l.rows
    → (joined (map (level_made (mean l.context.world (readings l.context.customs) S (pipe_of l.pipe)) l.rows) l.levels)
    ≡ option_map (λ rest. l.all.items ++ rest) (joined (map (level_made (mean l.context.world (readings l.context.customs) S (pipe_of l.pipe)) l.rows) (drop l.i l.levels))))
    × (l.steps + sum (map (application (cost l.context.world (readings l.context.customs) S (pipe_of l.pipe)) (mean l.context.world (readings l.context.customs) S (pipe_of l.pipe))) (flat_map (level_lists l.rows) (drop l.i l.levels)))
    ≤ l.fn.steps + sum (map (application (cost l.context.world (readings l.context.customs) S (pipe_of l.pipe)) (mean l.context.world (readings l.context.customs) S (pipe_of l.pipe))) (flat_map (level_lists l.rows) l.levels))))

-- the count has not fallen, the lists made so far and what is left to make are all lists, and what is left costs what is left
abbrev pub invariant-run_branches-loop-k : goal.invariant-run_branches-loop-k
invariant-run_branches-loop-k g l =
    (l.fn.steps ≤ l.steps)
    × ((S : Shape) → BranchesRun l.context l.root S (map pipe_of l.branches) l.rows
    → (all_some (map (λ p. mean l.context.world (readings l.context.customs) S p l.rows) (map pipe_of l.branches))
    ≡ option_map (λ rest. map (λ part. part.items) l.parts.items ++ rest) (all_some (map (λ p. mean l.context.world (readings l.context.customs) S p l.rows) (drop l.k (map pipe_of l.branches)))))
    × (l.steps + sum (map (branch_charge l.context.world (readings l.context.customs) S l.rows) (drop l.k (map pipe_of l.branches)))
    ≤ l.fn.steps + sum (map (branch_charge l.context.world (readings l.context.customs) S l.rows) (map pipe_of l.branches))))

-- the same of what is related to the rows
abbrev pub invariant-run_related-loop-i : goal.invariant-run_related-loop-i
invariant-run_related-loop-i g l =
    (l.fn.steps ≤ l.steps)
    × ((v : Navigation) (T : Shape) → navigation_on l.context.world.model l.nav ≡ Some v → RelatedRun l.context v T (inner_of (option_map pipe_of l.inner)) l.rows
    → (all_some (map (related_mean l.context.world (readings l.context.customs) v (inner_of (option_map pipe_of l.inner))) l.rows)
    ≡ option_map (λ rest. map (λ part. part.items) l.all.items ++ rest) (all_some (map (related_mean l.context.world (readings l.context.customs) v (inner_of (option_map pipe_of l.inner))) (drop l.i l.rows))))
    × (l.steps + sum (map (related_charge l.context.world (readings l.context.customs) v (inner_of (option_map pipe_of l.inner))) (drop l.i l.rows))
    ≤ l.fn.steps + sum (map (related_charge l.context.world (readings l.context.customs) v (inner_of (option_map pipe_of l.inner))) l.rows)))

-- the keys passed so far are no recursive rollups, one that is left is one of the keys, and nothing is counted
abbrev pub invariant-grouping_levels-loop-key : goal.invariant-grouping_levels-loop-key
invariant-grouping_levels-loop-key g l =
    (are_flat_keys (keys_from (map key_of l.items)) ≡ are_flat_keys (keys_from (map key_of (drop l.key-index l.items))))
    × ((k : Key) → HasKey k (keys_from (map key_of (drop l.key-index l.items))) → HasKey k (keys_from (map key_of l.items)))
    × (l.steps ≡ l.fn.steps)

-- a key that is left is one of the keys, and nothing is counted
abbrev pub invariant-run_keyed-loop-key : goal.invariant-run_keyed-loop-key
invariant-run_keyed-loop-key g l =
    ((k : Key) → HasKey k (keys_from (map key_of (drop l.key-index l.items))) → HasKey k (keys_from (map key_of l.items)))
    × (l.steps ≡ l.fn.steps)
