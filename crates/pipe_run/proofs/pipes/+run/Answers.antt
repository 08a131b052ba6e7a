use Rattle.std.proofs.Common.{rules, ℕ, true, false, get_or, [], ◌≡◌, ◌+◌, ◌≤◌, ◌∙◌, ap, sym, subst, refl, map, drop, length, Some, Err, IsTrue, arith, List, ◌∷◌, ◌++◌}
use Rattle.std.specs.Prelude.{flat_map, option_and_then, option_map, slice_get, nat_lt, ◌++◌, is_some}
use Rattle.std.proofs.lemmas.Option.{slice_get-get_or}
use Rattle.std.proofs.lemmas.Result.{err_from_is_err_and}
use Rattle.std.proofs.Math.ListN.{drop_of_length-le}
use Rattle.std.specs.List.{list_all}
use Rattle.edm_values.specs.Lists.{at_places, sorted, all_some}
use Rattle.edm_values.specs.declared.Value.{Value}
use Rattle.edm_data.specs.Worlds.{World}
use Rattle.apply_meaning.specs.Instances.{Instance, extended}
use Rattle.apply_meaning.specs.Meaning.{Outcome, joined, keyed, mean, order_before, order_values, refused_at_beyond, step_mean, inner_mean, shown_of}
use Rattle.apply_meaning.specs.MeaningLaws.{IsLoaded}
use Rattle.apply_meaning.specs.RowViews.{columns_differ}
use Rattle.apply_meaning.specs.Running.{Gives, StepRuns, all_free, all_of, new_columns}
use Rattle.apply_meaning.proofs.MeaningEquations.{mean-End, step_mean-Identity, step_mean-Filter, step_mean-Compute, step_mean-OrderBy, step_mean-Skip, step_mean-Top, inner_mean-NoPipe, inner_mean-SomePipe, step_mean-TopBy}
use Rattle.apply_meaning.proofs.RunLemmas.{turn, gives-err, next-step, compute-free, all-fit-of}
use Rattle.apply_ast.specs.Trees as tree
use Rattle.apply_ast.specs.Views.{key_of, agg_of, expr_of, inner_of, item_of, keys_of, named_of, pipe_of, step_of, pipes_in, top_of, climb_of, hier_of, traverse_of}
use Rattle.apply_ast.proofs.ViewEquations.{step_of-Aggregate, step_of-GroupBy, step_of-Identity, step_of-Filter, step_of-Compute, step_of-OrderBy, step_of-Skip, step_of-Top, join_of-is, pipes_of-is, step_of-Concat, step_of-Join, step_of-TopBy, climb_of-is, key_of-Plain, key_of-Recursive, key_of-Rollup, step_of-Climb, step_of-Traverse}
use Rattle.context_typing.specs.Readings.{readings}
use Rattle.pipe_run.specs.SeveralRuns.{BranchesReady}
use Rattle.step_run.specs.Conditions.{AreReady, RunsFrom, StepReadyFrom, StepRunsFrom, charge_of, InnerRuns, ReadyFrom, ShownReady}
use Rattle.step_run.specs.Costs.{cost, result_length, step_cost, inner_cost, given_applications}
use Rattle.step_run.proofs.AggregateFirst.{begun, begun-by, behind-first}
use Rattle.step_run.proofs.GroupingRun.{grouping-run, levels-found, step-cost-on, step-mean-on, step-runs-on}
use Rattle.pipe_run.proofs.ReadyParts.{ready-back, ready-branch, ready-front, ready-here, ready-next, ready-first, ready-key, ready-others}
use Rattle.step_run.proofs.RunLemmas.{turn-cost, turn-least, compute-cost, aggregate-cost, cost-same, gives-same, ready-same, runs-same}
use Rattle.step_run.specs.ItemLists.{AreFirstLists}
use Rattle.step_run.specs.Levels.{Level, group_made, level_made}
use Rattle.step_run.specs.Roots.{LeadsTo}
use Rattle.step_run.proofs.GroupLemmas.{next-sum}
use Rattle.step_run.proofs.LevelLemmas.{keys-least, keys-ready}
use Rattle.step_run.proofs.RunLevels.{group-run, last-joined, level-costs, levels-err, next-group, next-joined, next-level, next-refused, read-key, read-places, slice-at, total-charge}
use Rattle.std.specs.Global.{Vec}
use Rattle.std.proofs.lemmas.List.{length-map, map-append}
use Rattle.std.proofs.lemmas.List.Folds.{flat_map-map}
use Rattle.edm_model.specs.LookUps.{IsNavigation, navigation_on, set_type}
use Rattle.edm_model.specs.Models.{Navigation}
use Rattle.apply_ast.specs.Trees.{Pipe}
use Rattle.context_typing.specs.Shapes.{Shape, set_shape}
use Rattle.join_concat.specs.Joins.{bound_rows}
use Rattle.hier_states.specs.NamedHierarchies.{branch_hierarchies, hierarchies, inner_hierarchies, keys_hierarchies, step_hierarchies}
use Rattle.pipe_run.proofs.ConcatLemmas.{branch-at, branch-turn, concat-run}
use Rattle.pipe_run.proofs.ListsInTurn.{gives-all_err, joined-err, last-list, next-list, next-list_refused}
use Rattle.pipe_run.proofs.RelatedLemmas.{join-run, lists-made, made-mean, related-least, related-long, related-same, related-turn, related_charge, related_mean, target-is}
use Rattle.edm_data.specs.References.{count}
use Rattle.context_typing.specs.Typing.{hierarchy_at, plain_paths, rollup_paths}
use Rattle.apply_meaning.specs.Instances as instances
use Rattle.hier_rows.specs.HierRows.{AreNodesBelow, AreRootsBelow}
use Rattle.step_run.specs.Hierarchies.{climb_from, traversal}
use Rattle.step_run.specs.RecursiveKeys.{HasKey, is_flat_key}
use Rattle.pipe_run.proofs.ClimbLemmas.{climb-costs, climb-means, climb-of, traverse-run}
use Rattle.step_run.proofs.ClimbOutcomes.{found}
use Rattle.edm_values.proofs.OptionFacts.{some_value}
use Rattle.step_run.proofs.GroupingLevels.{all-flat, flat-gives, met-key, next-among, next-flat_key, node-gives, shown-gives, shown-least}
use Rattle.step_run.proofs.KeyParts.{recursive, recursive-part}
use Rattle.pipe_run.proofs.ShownRun.{shown-below, shown-err, shown-rows, shown-run}
use Rattle.step_run.proofs.TotalLaws.{totals-ready}
use Rattle.step_run.specs.Totals.{totals_step}
use Rattle.pipe_run.proofs.TotalsRun.{found-key, hier-ready, key-named, shown-same, totals-err, totals-gives, totals-least, totals-spent}
use Rattle.pipe_run.proofs.KeyedRun.{groups-refused, keyed-err, keyed-found, keyed-gives, keyed-hier, keyed-least, keyed-named, keyed-paths, keyed-readied, keyed-spent, same-keys}
use Rattle.pipe_run.proofs.pipes.+run.Goals as goal
use Rattle.pipe_run.proofs.pipes.+run.Goals.{grouping_levels-in-Plain, grouping_levels-in-Rollup}

pub run_pipe-run_steps-requires-clause-ready : goal.run_pipe-run_steps-requires-clause-ready
run_pipe-run_steps-requires-clause-ready g t c κs within = subst (λ p. ReadyFrom c.args.context.now c.args.root.now p c.args.rows.items) c.steps-all.ensures.tree c.requires.ready

pub run_pipe-run_steps-requires-clause-named : goal.run_pipe-run_steps-requires-clause-named
run_pipe-run_steps-requires-clause-named g t c κs within = subst (λ p. AreReady c.args.context.now (hierarchies p)) c.steps-all.ensures.tree c.requires.named

pub run_pipe-returns-clause-mean : goal.run_pipe-returns-clause-mean
run_pipe-returns-clause-mean g t c = λ S S' R.
    let x = c.args.context.now in
    let e = c.steps-all.ensures.tree in
    subst (λ p. Gives c.run_steps.result (mean x.world (readings x.customs) S p c.args.rows.items)) (sym e) (c.run_steps.ensures.mean S S' (subst (λ p. RunsFrom x c.args.root.now S S' p c.args.rows.items) e R))

pub run_pipe-returns-clause-steps : goal.run_pipe-returns-clause-steps
run_pipe-returns-clause-steps g t c = λ S S' R.
    let x = c.args.context.now in
    let e = c.steps-all.ensures.tree in
    let spent = c.run_steps.ensures.steps S S' (subst (λ p. RunsFrom x c.args.root.now S S' p c.args.rows.items) e R) in
    let same = ap (λ p. cost x.world (readings x.customs) S p c.args.rows.items) e in
    omega (arith, spent, same)

pub run_pipe-returns-clause-grown : goal.run_pipe-returns-clause-grown
run_pipe-returns-clause-grown g t c = omega (arith, c.run_steps.ensures.grown)

-- ---- transformations in turn

pub run_steps-step_ready-requires-clause-ready : goal.run_steps-step_ready-requires-clause-ready
run_steps-step_ready-requires-clause-ready g t c κs within =
    let r = c.requires.ready in
    let i = c.loop-i.invariant.1 r.0 r.1 r.2 in
    (i.0, r.1, i.1)

pub run_steps-run_step-requires-clause-named : goal.run_steps-run_step-requires-clause-named
run_steps-run_step-requires-clause-named g t c κs within = ready-here c.args.context.now c.args.all.now c.loop-i.i c.index-all-i.result c.loop-i-test.true c.index-all-i.is c.loop-i.invariant.0

pub run_steps-returns-in_err-rows-clause-mean : goal.run_steps-returns-in_err-rows-clause-mean
run_steps-returns-in_err-rows-clause-mean g t c = λ S S' R.
    let w = c.args.context.now.world in
    let cs = readings c.args.context.now.customs in
    let ss = c.args.all.now in
    let rest = tree.pipe (map step_of (drop (c.loop-i.i + 1) ss)) in
    let e = next-step ss c.loop-i.i c.index-all-i.result c.loop-i-test.true c.index-all-i.is in
    let i = c.loop-i.invariant.1 S S' R in
    let u = turn w cs i.0 S' _ (step_of c.index-all-i.result) rest c.loop-i.rows.items e (i.1).runs in
    let p = err_from_is_err_and c.from_residual.result c.from_residual.ensures.1 in
    rw (p.1, p.2) (gives-err c.in_err-rows.field-0.0 (step_mean w cs i.0 (step_of c.index-all-i.result) c.loop-i.rows.items) _ (c.in_err-rows.ensures.mean i.0 u.between (record { runs = u.first; root_is = (i.1).root_is }))
    (λ n. i.2 ∙ u.meaning ∙ ap (option_and_then (mean w cs u.between rest)) n))

pub run_steps-returns-in_err-rows-clause-steps : goal.run_steps-returns-in_err-rows-clause-steps
run_steps-returns-in_err-rows-clause-steps g t c = λ S S' R.
    let w = c.args.context.now.world in
    let cs = readings c.args.context.now.customs in
    let ss = c.args.all.now in
    let rest = tree.pipe (map step_of (drop (c.loop-i.i + 1) ss)) in
    let e = next-step ss c.loop-i.i c.index-all-i.result c.loop-i-test.true c.index-all-i.is in
    let i = c.loop-i.invariant.1 S S' R in
    let u = turn w cs i.0 S' _ (step_of c.index-all-i.result) rest c.loop-i.rows.items e (i.1).runs in
    let s = c.run_step.ensures.steps i.0 u.between (record { runs = u.first; root_is = (i.1).root_is }) in
    let least = turn-least w cs i.0 _ (step_of c.index-all-i.result) rest c.loop-i.rows.items e in
    let left = i.3 in
    omega (arith, s, least, left)

pub run_steps-returns-in_err-rows-clause-grown : goal.run_steps-returns-in_err-rows-clause-grown
run_steps-returns-in_err-rows-clause-grown g t c = omega (arith, c.run_step.ensures.grown, c.loop-i.invariant.2)

pub run_steps-loop-i-preserved : goal.run_steps-loop-i-preserved
run_steps-loop-i-preserved g t c = (
  ready-next c.args.context.now c.args.all.now c.loop-i.i c.index-all-i.result c.loop-i-test.true c.index-all-i.is c.loop-i.invariant.0,
  λ S S' R.
      let w = c.args.context.now.world in
      let cs = readings c.args.context.now.customs in
      let ss = c.args.all.now in
      let rest = tree.pipe (map step_of (drop (c.loop-i.i + 1) ss)) in
      let e = next-step ss c.loop-i.i c.index-all-i.result c.loop-i-test.true c.index-all-i.is in
      let i = c.loop-i.invariant.1 S S' R in
      let u = turn w cs i.0 S' _ (step_of c.index-all-i.result) rest c.loop-i.rows.items e (i.1).runs in
      let first : StepRunsFrom c.args.context.now c.loop-i.root i.0 u.between (step_of c.index-all-i.result) c.loop-i.rows.items = record { runs = u.first; root_is = (i.1).root_is } in
      let m = c.in_ok-rows.ensures.mean i.0 u.between first in
      let s = c.run_step.ensures.steps i.0 u.between first in
      let spent = turn-cost w cs i.0 S' _ (step_of c.index-all-i.result) rest c.loop-i.rows.items c.in_ok-rows.rows.items e u m in
      let left = i.3 in (
        u.between,
        record {
          runs = u.next c.in_ok-rows.rows.items (subst IsLoaded c.store.ensures.value c.data_is_loaded.ensures.value) m;
          root_is = c.root_after-root.ensures.value w.model cs i.0 u.between u.first.typed (i.1).root_is;
        },
        i.2 ∙ u.meaning ∙ ap (option_and_then (mean w cs u.between rest)) m,
        omega (arith, s, spent, left),
      ),
  omega (arith, c.run_step.ensures.grown, c.loop-i.invariant.2),
)

pub run_steps-returns-clause-mean : goal.run_steps-returns-clause-mean
run_steps-returns-clause-mean g t c = λ S S' R.
    let w = c.args.context.now.world in
    let cs = readings c.args.context.now.customs in
    let i = c.loop-i.invariant.1 S S' R in
    i.2 ∙ ap (λ ss. mean w cs i.0 (tree.pipe (map step_of ss)) c.loop-i.rows.items) (drop_of_length-le c.args.all.now (omega (arith, c.loop-i-test.false))) ∙ mean-End w cs i.0 c.loop-i.rows.items

pub run_steps-returns-clause-steps : goal.run_steps-returns-clause-steps
run_steps-returns-clause-steps g t c = λ S S' R.
    let left = (c.loop-i.invariant.1 S S' R).3 in
    omega (arith, left)

pub run_steps-returns-clause-grown : goal.run_steps-returns-clause-grown
run_steps-returns-clause-grown g t c = omega (arith, c.loop-i.invariant.2)

-- ---- a pipeline on the rows at places

pub run_at-aggregated_at-requires-clause-lists : goal.run_at-aggregated_at-requires-clause-lists
run_at-aggregated_at-requires-clause-lists g t c κs within =
    let x = c.args.context.now in
    let is = ap step_of c.in-Aggregate.is ∙ step_of-Aggregate c.in-Aggregate.items in
    let whole = begun-by (pipe_of c.args.pipe.now) c.steps-all.result.now c.index-all-0.result (map agg_of c.in-Aggregate.items) c.steps-all.ensures.tree c.steps-all.ensures.some c.index-all-0.is is in
    c.requires.lists (map agg_of c.in-Aggregate.items) _ whole

pub run_at-aggregated_at-requires-clause-ready : goal.run_at-aggregated_at-requires-clause-ready
run_at-aggregated_at-requires-clause-ready g t c κs within =
    let x = c.args.context.now in
    let s = tree.Step.Aggregate (map agg_of c.in-Aggregate.items) in
    let is = ap step_of c.in-Aggregate.is ∙ step_of-Aggregate c.in-Aggregate.items in
    let whole = begun-by (pipe_of c.args.pipe.now) c.steps-all.result.now c.index-all-0.result (map agg_of c.in-Aggregate.items) c.steps-all.ensures.tree c.steps-all.ensures.some c.index-all-0.is is in
    let r = c.requires.ready in
    let b = begun whole r.2 in
    (r.0, b.between, b.first)

pub run_at-run_steps-requires-clause-ready : goal.run_at-run_steps-requires-clause-ready
run_at-run_steps-requires-clause-ready g t c κs within =
    let x = c.args.context.now in
    let s = tree.Step.Aggregate (map agg_of c.in-Aggregate.items) in
    let is = ap step_of c.in-Aggregate.is ∙ step_of-Aggregate c.in-Aggregate.items in
    let whole = begun-by (pipe_of c.args.pipe.now) c.steps-all.result.now c.index-all-0.result (map agg_of c.in-Aggregate.items) c.steps-all.ensures.tree c.steps-all.ensures.some c.index-all-0.is is in
    let S = c.requires.ready.0 in
    let R = c.requires.ready.2 in
    let b = begun whole R in
    let m = c.in_ok-made-in-Aggregate.ensures.mean S R.root_is in
    let after = subst (λ s. LeadsTo s c.args.root.now c.root_after-root.result) is c.root_after-root.ensures.value in
    let run = b.next c.in_ok-made-in-Aggregate.made.items c.root_after-root.result (subst IsLoaded c.store.ensures.value c.data_is_loaded.ensures.value) m after in
    (b.between, c.requires.ready.1, run)

pub run_at-run_steps-requires-clause-named : goal.run_at-run_steps-requires-clause-named
run_at-run_steps-requires-clause-named g t c κs within =
    subst (λ ss. AreReady c.args.context.now (hierarchies (tree.pipe (map step_of ss)))) (sym (behind-first c.steps-all.result.now))
    (ready-next c.args.context.now c.steps-all.result.now 0 c.index-all-0.result c.steps-all.ensures.some c.index-all-0.is (subst (λ p. AreReady c.args.context.now (hierarchies p)) c.steps-all.ensures.tree c.requires.named))

pub run_at-returns-in_err-made-in-Aggregate-clause-steps : goal.run_at-returns-in_err-made-in-Aggregate-clause-steps
run_at-returns-in_err-made-in-Aggregate-clause-steps g t c = λ S S' R.
    let x = c.args.context.now in
    let s = tree.Step.Aggregate (map agg_of c.in-Aggregate.items) in
    let is = ap step_of c.in-Aggregate.is ∙ step_of-Aggregate c.in-Aggregate.items in
    let whole = begun-by (pipe_of c.args.pipe.now) c.steps-all.result.now c.index-all-0.result (map agg_of c.in-Aggregate.items) c.steps-all.ensures.tree c.steps-all.ensures.some c.index-all-0.is is in
    let b = begun whole R in
    let least = b.least in
    let spent = c.aggregated_at.ensures.steps in
    omega (arith, least, spent)

pub run_at-returns-in_err-made-in-Aggregate-clause-grown : goal.run_at-returns-in_err-made-in-Aggregate-clause-grown
run_at-returns-in_err-made-in-Aggregate-clause-grown g t c = omega (arith, c.aggregated_at.ensures.grown)

pub run_at-returns-in_ok-made-in-Aggregate-clause-mean : goal.run_at-returns-in_ok-made-in-Aggregate-clause-mean
run_at-returns-in_ok-made-in-Aggregate-clause-mean g t c = λ S S' R.
    let x = c.args.context.now in
    let s = tree.Step.Aggregate (map agg_of c.in-Aggregate.items) in
    let is = ap step_of c.in-Aggregate.is ∙ step_of-Aggregate c.in-Aggregate.items in
    let whole = begun-by (pipe_of c.args.pipe.now) c.steps-all.result.now c.index-all-0.result (map agg_of c.in-Aggregate.items) c.steps-all.ensures.tree c.steps-all.ensures.some c.index-all-0.is is in
    let b = begun whole R in
    let m = c.in_ok-made-in-Aggregate.ensures.mean S R.root_is in
    let after = subst (λ s. LeadsTo s c.args.root.now c.root_after-root.result) is c.root_after-root.ensures.value in
    let run = b.next c.in_ok-made-in-Aggregate.made.items c.root_after-root.result (subst IsLoaded c.store.ensures.value c.data_is_loaded.ensures.value) m after in
    subst (Gives c.run_steps.result) (sym (b.means c.in_ok-made-in-Aggregate.made.items m)) (c.run_steps.ensures.mean b.between S' run)

pub run_at-returns-in_ok-made-in-Aggregate-clause-steps : goal.run_at-returns-in_ok-made-in-Aggregate-clause-steps
run_at-returns-in_ok-made-in-Aggregate-clause-steps g t c = λ S S' R.
    let x = c.args.context.now in
    let s = tree.Step.Aggregate (map agg_of c.in-Aggregate.items) in
    let is = ap step_of c.in-Aggregate.is ∙ step_of-Aggregate c.in-Aggregate.items in
    let whole = begun-by (pipe_of c.args.pipe.now) c.steps-all.result.now c.index-all-0.result (map agg_of c.in-Aggregate.items) c.steps-all.ensures.tree c.steps-all.ensures.some c.index-all-0.is is in
    let b = begun whole R in
    let m = c.in_ok-made-in-Aggregate.ensures.mean S R.root_is in
    let after = subst (λ s. LeadsTo s c.args.root.now c.root_after-root.result) is c.root_after-root.ensures.value in
    let run = b.next c.in_ok-made-in-Aggregate.made.items c.root_after-root.result (subst IsLoaded c.store.ensures.value c.data_is_loaded.ensures.value) m after in
    let spent = c.aggregated_at.ensures.steps in
    let ran = c.run_steps.ensures.steps b.between S' run in
    let costs = b.costs c.in_ok-made-in-Aggregate.made.items m in
    omega (arith, spent, ran, costs)

pub run_at-returns-in_ok-made-in-Aggregate-clause-grown : goal.run_at-returns-in_ok-made-in-Aggregate-clause-grown
run_at-returns-in_ok-made-in-Aggregate-clause-grown g t c = omega (arith, c.aggregated_at.ensures.grown, c.run_steps.ensures.grown)

pub run_at-returns-in_err-copies-in_default-clause-steps : goal.run_at-returns-in_err-copies-in_default-clause-steps
run_at-returns-in_err-copies-in_default-clause-steps g t c = λ S S' R. omega (arith, c.members.ensures.steps)

pub run_at-returns-in_err-copies-in_default-clause-grown : goal.run_at-returns-in_err-copies-in_default-clause-grown
run_at-returns-in_err-copies-in_default-clause-grown g t c = omega (arith, c.members.ensures.grown)

pub run_at-run_steps-requires-in_default-clause-ready : goal.run_at-run_steps-requires-in_default-clause-ready
run_at-run_steps-requires-in_default-clause-ready g t c κs within =
    subst (ReadyFrom c.args.context.now c.args.root.now (tree.pipe (map step_of c.steps-all.result.now))) (sym c.in_ok-copies-in_default.ensures.rows)
    (subst (λ p. ReadyFrom c.args.context.now c.args.root.now p (at_places c.args.rows.now c.args.places.now)) c.steps-all.ensures.tree c.requires.ready)

pub run_at-run_steps-requires-in_default-clause-named : goal.run_at-run_steps-requires-in_default-clause-named
run_at-run_steps-requires-in_default-clause-named g t c κs within = subst (λ p. AreReady c.args.context.now (hierarchies p)) c.steps-all.ensures.tree c.requires.named

pub run_at-returns-in_ok-copies-in_default-clause-mean : goal.run_at-returns-in_ok-copies-in_default-clause-mean
run_at-returns-in_ok-copies-in_default-clause-mean g t c = λ S S' R.
    let x = c.args.context.now in
    let e = c.steps-all.ensures.tree in
    let copied = c.in_ok-copies-in_default.ensures.rows in
    let run = subst (RunsFrom x c.args.root.now S S' (tree.pipe (map step_of c.steps-all.result.now))) (sym copied) (subst (λ p. RunsFrom x c.args.root.now S S' p (at_places c.args.rows.now c.args.places.now)) e R) in
    subst (Gives c.run_steps-in_default.result) (λ i. mean x.world (readings x.customs) S (sym e i) (copied i)) (c.run_steps-in_default.ensures.mean S S' run)

pub run_at-returns-in_ok-copies-in_default-clause-steps : goal.run_at-returns-in_ok-copies-in_default-clause-steps
run_at-returns-in_ok-copies-in_default-clause-steps g t c = λ S S' R.
    let x = c.args.context.now in
    let e = c.steps-all.ensures.tree in
    let copied = c.in_ok-copies-in_default.ensures.rows in
    let run = subst (RunsFrom x c.args.root.now S S' (tree.pipe (map step_of c.steps-all.result.now))) (sym copied) (subst (λ p. RunsFrom x c.args.root.now S S' p (at_places c.args.rows.now c.args.places.now)) e R) in
    let ran = c.run_steps-in_default.ensures.steps S S' run in
    let made = c.members.ensures.steps in
    let same : cost x.world (readings x.customs) S (pipe_of c.args.pipe.now) (at_places c.args.rows.now c.args.places.now) ≡ cost x.world (readings x.customs) S (tree.pipe (map step_of c.steps-all.result.now)) c.in_ok-copies-in_default.copies.items = λ i. cost x.world (readings x.customs) S (e i) (sym copied i) in
    omega (arith, ran, made, same)

pub run_at-returns-in_ok-copies-in_default-clause-grown : goal.run_at-returns-in_ok-copies-in_default-clause-grown
run_at-returns-in_ok-copies-in_default-clause-grown g t c = omega (arith, c.members.ensures.grown, c.run_steps-in_default.ensures.grown)

-- ---- one piece alone

pub run_alone-run_pipe-requires-clause-ready : goal.run_alone-run_pipe-requires-clause-ready
run_alone-run_pipe-requires-clause-ready g t c κs within = subst (λ x. ReadyFrom x c.args.root.now (pipe_of c.args.pipe.now) c.args.rows.items) (sym c.alone-inner.ensures.value) c.requires.ready

pub run_alone-run_pipe-requires-clause-named : goal.run_alone-run_pipe-requires-clause-named
run_alone-run_pipe-requires-clause-named g t c κs within = subst (λ x. AreReady x (hierarchies (pipe_of c.args.pipe.now))) (sym c.alone-inner.ensures.value) c.requires.named

pub run_alone-returns-clause-mean : goal.run_alone-returns-clause-mean
run_alone-returns-clause-mean g t c = λ S S' R.
    let e = c.alone-inner.ensures.value in
    subst (λ x. Gives c.run_pipe.result (mean x.world (readings x.customs) S (pipe_of c.args.pipe.now) c.args.rows.items)) e
    (c.run_pipe.ensures.mean S S' (subst (λ x. RunsFrom x c.args.root.now S S' (pipe_of c.args.pipe.now) c.args.rows.items) (sym e) R))

pub run_alone-returns-clause-steps : goal.run_alone-returns-clause-steps
run_alone-returns-clause-steps g t c = λ S S' R.
    let e = c.alone-inner.ensures.value in
    let spent = c.run_pipe.ensures.steps S S' (subst (λ x. RunsFrom x c.args.root.now S S' (pipe_of c.args.pipe.now) c.args.rows.items) (sym e) R) in
    let same = ap (λ x. cost x.world (readings x.customs) S (pipe_of c.args.pipe.now) c.args.rows.items) e in
    omega (arith, spent, same)

pub run_alone-returns-clause-grown : goal.run_alone-returns-clause-grown
run_alone-returns-clause-grown g t c = omega (arith, c.run_pipe.ensures.grown)

-- ---- one transformation

pub run_step-filter-requires-clause-of : goal.run_step-filter-requires-clause-of
run_step-filter-requires-clause-of g t c κs within =
    let r = c.requires.ready in
    all-fit-of c.args.context.now.world r.0 c.args.rows.items (r.2).runs.fit

pub run_step-compute-requires-clause-of : goal.run_step-compute-requires-clause-of
run_step-compute-requires-clause-of g t c κs within =
    let r = c.requires.ready in
    all-fit-of c.args.context.now.world r.0 c.args.rows.items (r.2).runs.fit

pub run_step-order_rows-requires : goal.run_step-order_rows-requires
run_step-order_rows-requires g t c =
    let r = c.requires.ready in
    subst (λ w. IsTrue (all_of w c.args.rows.items)) (sym c.store-store.ensures.value) (all-fit-of c.args.context.now.world r.0 c.args.rows.items (r.2).runs.fit)

pub run_step-compute-requires-clause-free : goal.run_step-compute-requires-clause-free
run_step-compute-requires-clause-free g t c κs within =
    let x = c.args.context.now in
    let r = c.requires.ready in
    let e = ap step_of c.in-Compute.is ∙ step_of-Compute c.in-Compute.items in
    let free = compute-free x.world (readings x.customs) r.0 r.1 (map named_of c.in-Compute.items) c.args.rows.items (subst IsLoaded c.store-store.ensures.value c.data_is_loaded.ensures.value)
    (subst (λ s. StepRuns x.world (readings x.customs) r.0 r.1 s c.args.rows.items) e (r.2).runs) in
    subst (λ xs. IsTrue (all_free x.world (map named_of xs) c.args.rows.items)) (sym c.as_slice-in-Compute.ensures.value) free

pub run_step-returns-in-Identity-clause-mean : goal.run_step-returns-in-Identity-clause-mean
run_step-returns-in-Identity-clause-mean g t c = λ S S' R.
    let x = c.args.context.now in
    ap (λ s. step_mean x.world (readings x.customs) S s c.args.rows.items) (ap step_of c.in-Identity.is ∙ step_of-Identity) ∙ step_mean-Identity x.world (readings x.customs) S c.args.rows.items

pub run_step-returns-in-Filter-clause-mean : goal.run_step-returns-in-Filter-clause-mean
run_step-returns-in-Filter-clause-mean g t c = λ S S' R.
    let x = c.args.context.now in
    let l = c.args.rows.items in
    let e = expr_of c.in-Filter.e in
    subst (Gives c.filter.result) (sym (ap (λ s. step_mean x.world (readings x.customs) S s l) (ap step_of c.in-Filter.is ∙ step_of-Filter c.in-Filter.e) ∙ step_mean-Filter x.world (readings x.customs) S e l))
    c.filter.ensures.value

pub run_step-returns-in_err-compute-in-Compute-clause-steps :
    goal.run_step-returns-in_err-compute-in-Compute-clause-steps
run_step-returns-in_err-compute-in-Compute-clause-steps g t c = λ S S' R.
    let x = c.args.context.now in
    let e = ap step_of c.in-Compute.is ∙ step_of-Compute c.in-Compute.items in
    let spent = c.compute.ensures.steps in
    let whole = ap (λ s. step_cost x.world (readings x.customs) S s c.args.rows.items) e ∙ compute-cost x.world (readings x.customs) S (map named_of c.in-Compute.items) c.args.rows.items in
    omega (arith, spent, whole)

pub run_step-returns-in_err-compute-in-Compute-clause-grown : goal.run_step-returns-in_err-compute-in-Compute-clause-grown
run_step-returns-in_err-compute-in-Compute-clause-grown g t c = omega (arith, c.compute.ensures.grown)

pub run_step-returns-in_ok-compute-in-Compute-clause-mean :
    goal.run_step-returns-in_ok-compute-in-Compute-clause-mean
run_step-returns-in_ok-compute-in-Compute-clause-mean g t c = λ S S' R.
    let x = c.args.context.now in
    let l = c.args.rows.items in
    ap (λ s. step_mean x.world (readings x.customs) S s l) (ap step_of c.in-Compute.is ∙ step_of-Compute c.in-Compute.items) ∙ step_mean-Compute x.world (readings x.customs) S (map named_of c.in-Compute.items) l
    ∙ ap (λ xs. Some (map (λ i. extended i (new_columns x.world (map named_of xs) i)) l)) (sym c.as_slice-in-Compute.ensures.value)
    ∙ ap Some (sym c.in_ok-compute-in-Compute.ensures.rows)

pub run_step-returns-in_ok-compute-in-Compute-clause-steps :
    goal.run_step-returns-in_ok-compute-in-Compute-clause-steps
run_step-returns-in_ok-compute-in-Compute-clause-steps g t c = λ S S' R.
    let x = c.args.context.now in
    let e = ap step_of c.in-Compute.is ∙ step_of-Compute c.in-Compute.items in
    let spent = c.compute.ensures.steps in
    let whole = ap (λ s. step_cost x.world (readings x.customs) S s c.args.rows.items) e ∙ compute-cost x.world (readings x.customs) S (map named_of c.in-Compute.items) c.args.rows.items in
    omega (arith, spent, whole)

pub run_step-returns-in_ok-compute-in-Compute-clause-grown : goal.run_step-returns-in_ok-compute-in-Compute-clause-grown
run_step-returns-in_ok-compute-in-Compute-clause-grown g t c = omega (arith, c.compute.ensures.grown)

pub run_step-returns-in-OrderBy-clause-mean : goal.run_step-returns-in-OrderBy-clause-mean
run_step-returns-in-OrderBy-clause-mean g t c = λ S S' R.
    let x = c.args.context.now in
    let l = c.args.rows.items in
    let items = map item_of c.in-OrderBy.items in
    subst (Gives c.order_rows.result) (sym (ap (λ s. step_mean x.world (readings x.customs) S s l) (ap step_of c.in-OrderBy.is ∙ step_of-OrderBy c.in-OrderBy.items) ∙ step_mean-OrderBy x.world (readings x.customs) S items l))
    (subst (λ (w : World). Gives c.order_rows.result (refused_at_beyond (order_values w items l) (sorted (order_before w items) l))) c.store-store.ensures.value c.order_rows.ensures.value)

pub run_step-returns-in-Skip-clause-mean : goal.run_step-returns-in-Skip-clause-mean
run_step-returns-in-Skip-clause-mean g t c = λ S S' R.
    let x = c.args.context.now in
    ap (λ s. step_mean x.world (readings x.customs) S s c.args.rows.items) (ap step_of c.in-Skip.is ∙ step_of-Skip c.in-Skip.n) ∙ step_mean-Skip x.world (readings x.customs) S c.in-Skip.n c.args.rows.items ∙ ap Some (sym c.skip_rows.ensures.value)

pub run_step-returns-in-Top-clause-mean : goal.run_step-returns-in-Top-clause-mean
run_step-returns-in-Top-clause-mean g t c = λ S S' R.
    let x = c.args.context.now in
    ap (λ s. step_mean x.world (readings x.customs) S s c.args.rows.items) (ap step_of c.in-Top.is ∙ step_of-Top c.in-Top.n) ∙ step_mean-Top x.world (readings x.customs) S c.in-Top.n c.args.rows.items ∙ ap Some (sym c.top_rows.ensures.value)

pub run_step-aggregated-requires-clause-ready : goal.run_step-aggregated-requires-clause-ready
run_step-aggregated-requires-clause-ready g t c κs within =
    let x = c.args.context.now in
    let e = ap step_of c.in-Aggregate.is ∙ step_of-Aggregate c.in-Aggregate.items in
    subst (λ l. StepReadyFrom x c.args.root.now (tree.Step.Aggregate (map agg_of c.in-Aggregate.items)) l) (sym (c.all-all.ensures.value ∙ c.of_rows-list-in-Aggregate.ensures.value ∙ c.as_slice-in-Aggregate.ensures.value))
    (subst (λ s. StepReadyFrom x c.args.root.now s c.args.rows.items) e c.requires.ready)

pub run_step-returns-in_ok-aggregated-in-Aggregate-clause-mean :
    goal.run_step-returns-in_ok-aggregated-in-Aggregate-clause-mean
run_step-returns-in_ok-aggregated-in-Aggregate-clause-mean g t c = λ S S' R.
    let x = c.args.context.now in
    let s = tree.Step.Aggregate (map agg_of c.in-Aggregate.items) in
    ap (λ s. step_mean x.world (readings x.customs) S s c.args.rows.items) (ap step_of c.in-Aggregate.is ∙ step_of-Aggregate c.in-Aggregate.items)
    ∙ ap (step_mean x.world (readings x.customs) S s) (sym (c.all-all.ensures.value ∙ c.of_rows-list-in-Aggregate.ensures.value ∙ c.as_slice-in-Aggregate.ensures.value))
    ∙ c.in_ok-aggregated-in-Aggregate.ensures.mean S R.root_is

pub run_step-returns-in_err-aggregated-in-Aggregate-clause-steps :
    goal.run_step-returns-in_err-aggregated-in-Aggregate-clause-steps
run_step-returns-in_err-aggregated-in-Aggregate-clause-steps g t c = λ S S' R.
    let x = c.args.context.now in
    let e = ap step_of c.in-Aggregate.is ∙ step_of-Aggregate c.in-Aggregate.items in
    let spent = c.aggregated.ensures.steps in
    let whole = ap (λ s. step_cost x.world (readings x.customs) S s c.args.rows.items) e ∙ aggregate-cost x.world (readings x.customs) S (map agg_of c.in-Aggregate.items) c.args.rows.items in
    omega (arith, spent, whole)

pub run_step-returns-in_err-aggregated-in-Aggregate-clause-grown : goal.run_step-returns-in_err-aggregated-in-Aggregate-clause-grown
run_step-returns-in_err-aggregated-in-Aggregate-clause-grown g t c = omega (arith, c.aggregated.ensures.grown)

pub run_step-returns-in_ok-aggregated-in-Aggregate-clause-steps :
    goal.run_step-returns-in_ok-aggregated-in-Aggregate-clause-steps
run_step-returns-in_ok-aggregated-in-Aggregate-clause-steps g t c = λ S S' R.
    let x = c.args.context.now in
    let e = ap step_of c.in-Aggregate.is ∙ step_of-Aggregate c.in-Aggregate.items in
    let spent = c.aggregated.ensures.steps in
    let whole = ap (λ s. step_cost x.world (readings x.customs) S s c.args.rows.items) e ∙ aggregate-cost x.world (readings x.customs) S (map agg_of c.in-Aggregate.items) c.args.rows.items in
    omega (arith, spent, whole)

pub run_step-returns-in_ok-aggregated-in-Aggregate-clause-grown : goal.run_step-returns-in_ok-aggregated-in-Aggregate-clause-grown
run_step-returns-in_ok-aggregated-in-Aggregate-clause-grown g t c = omega (arith, c.aggregated.ensures.grown)

-- ---- one group

pub run_group-run_at-requires-clause-within : goal.run_group-run_at-requires-clause-within
run_group-run_at-requires-clause-within g t c κs within =
    let l = c.args.rows.now in
    let level = c.args.level.now in
    let d = get_or level.1 c.args.k ([], []) in
    let at = slice_get-get_or level.1 c.args.k ([], []) c.requires.within in
    let places = read-places level.1 c.args.k d c.places-places.result.now at c.places-places.ensures.value in
    subst (λ ns. IsTrue (list_all (λ k. nat_lt k (length l)) ns)) (sym places) ((c.requires.ready.2).within c.args.k d at)

pub run_group-run_at-requires-clause-lists : goal.run_group-run_at-requires-clause-lists
run_group-run_at-requires-clause-lists g t c κs within = subst (λ x. AreFirstLists x.world c.args.rows.now (pipe_of c.args.pipe.now) c.args.lists.now) (sym c.alone-inner.ensures.value) c.requires.lists

pub run_group-run_at-requires-clause-ready : goal.run_group-run_at-requires-clause-ready
run_group-run_at-requires-clause-ready g t c κs within = subst (λ x. ReadyFrom x c.args.root.now (pipe_of c.args.pipe.now) (at_places c.args.rows.now c.places-places.result.now)) (sym c.alone-inner.ensures.value) c.group_ready.ensures

pub run_group-run_at-requires-clause-named : goal.run_group-run_at-requires-clause-named
run_group-run_at-requires-clause-named g t c κs within = subst (λ x. AreReady x (hierarchies (pipe_of c.args.pipe.now))) (sym c.alone-inner.ensures.value) c.requires.named

pub run_group-returns-in_err-results-clause-mean : goal.run_group-returns-in_err-results-clause-mean
run_group-returns-in_err-results-clause-mean g t c = λ S G d R at.
    let x = c.args.context.now in
    let T = pipe_of c.args.pipe.now in
    let l = c.args.rows.now in
    let u = group-run c.args.k R at c.places-places.ensures.value refl in
    let given = subst (λ x. (S G : Shape) → RunsFrom x c.args.root.now S G T (at_places l c.places-places.result.now) → Gives (Err c.in_err-results.field-0.0) (mean x.world (readings x.customs) S T (at_places l c.places-places.result.now))) c.alone-inner.ensures.value c.in_err-results.ensures.mean in
    let p = err_from_is_err_and c.from_residual.result c.from_residual.ensures.1 in
    rw (p.1, p.2) (gives-err c.in_err-results.field-0.0 _ _ (given S G u.runs) (λ n. ap (option_map (map (λ r. extended r (keyed c.args.level.now.0 d.0)))) (u.means ∙ n)))

pub run_group-returns-in_err-results-clause-steps : goal.run_group-returns-in_err-results-clause-steps
run_group-returns-in_err-results-clause-steps g t c = λ S G d R at.
    let x = c.args.context.now in
    let T = pipe_of c.args.pipe.now in
    let l = c.args.rows.now in
    let u = group-run c.args.k R at c.places-places.ensures.value refl in
    let e = c.alone-inner.ensures.value in
    let spent = c.run_at.ensures.steps S G (subst (λ x. RunsFrom x c.args.root.now S G T (at_places l c.places-places.result.now)) (sym e) u.runs) in
    let same = ap (λ x. cost x.world (readings x.customs) S T (at_places l c.places-places.result.now)) e in
    let costs = u.costs in
    let few = u.few in
    let charged : charge_of x S T l d ≡ length (at_places l d.1) + cost x.world (readings x.customs) S T (at_places l d.1) + result_length (mean x.world (readings x.customs) S T (at_places l d.1)) = refl in
    omega (arith, few, charged, spent, same, costs)

pub run_group-returns-in_err-results-clause-grown : goal.run_group-returns-in_err-results-clause-grown
run_group-returns-in_err-results-clause-grown g t c = omega (arith, c.run_at.ensures.grown)

pub run_group-returns-in_err-key-clause-steps : goal.run_group-returns-in_err-key-clause-steps
run_group-returns-in_err-key-clause-steps g t c = λ S G d R at.
    let x = c.args.context.now in
    let T = pipe_of c.args.pipe.now in
    let l = c.args.rows.now in
    let u = group-run c.args.k R at c.places-places.ensures.value refl in
    let e = c.alone-inner.ensures.value in
    let spent = c.run_at.ensures.steps S G (subst (λ x. RunsFrom x c.args.root.now S G T (at_places l c.places-places.result.now)) (sym e) u.runs) in
    let same = ap (λ x. cost x.world (readings x.customs) S T (at_places l c.places-places.result.now)) e in
    let costs = u.costs in
    let few = u.few in
    let charged : charge_of x S T l d ≡ length (at_places l d.1) + cost x.world (readings x.customs) S T (at_places l d.1) + result_length (mean x.world (readings x.customs) S T (at_places l d.1)) = refl in
    omega (arith, few, charged, spent, same, costs)

pub run_group-returns-in_err-key-clause-grown : goal.run_group-returns-in_err-key-clause-grown
run_group-returns-in_err-key-clause-grown g t c = omega (arith, c.run_at.ensures.grown)

pub run_group-with_keys-requires : goal.run_group-with_keys-requires
run_group-with_keys-requires g t c =
    let x = c.args.context.now in
    let T = pipe_of c.args.pipe.now in
    let l = c.args.rows.now in
    let level = c.args.level.now in
    let r = c.requires.ready in
    let R = r.2 in
    let d = get_or level.1 c.args.k ([], []) in
    let at = slice_get-get_or level.1 c.args.k ([], []) c.requires.within in
    let u = group-run c.args.k R at c.places-places.ensures.value refl in
    let given = subst (λ x. (S G : Shape) → RunsFrom x c.args.root.now S G T (at_places l c.places-places.result.now) → mean x.world (readings x.customs) S T (at_places l c.places-places.result.now) ≡ Some c.in_ok-results.results.items) c.alone-inner.ensures.value c.in_ok-results.ensures.mean in
    let m = u.means ∙ given r.0 r.1 u.runs in
    let key = read-key level.1 c.args.k d c.in_ok-key.key.items at c.in_ok-key.ensures.value in
    record {
      free = subst (λ ps. IsTrue (list_all (λ i. columns_differ (extended i (keyed ps c.as_slice.result.now)).columns) c.in_ok-results.results.items)) (sym c.paths.ensures.value)
          (subst (λ k. IsTrue (list_all (λ i. columns_differ (extended i (keyed level.0 k)).columns) c.in_ok-results.results.items)) (sym (c.as_slice.ensures.value ∙ key)) (R.free c.args.k d c.in_ok-results.results.items at m));
    }

pub run_group-returns-in_err-with_keys-clause-steps : goal.run_group-returns-in_err-with_keys-clause-steps
run_group-returns-in_err-with_keys-clause-steps g t c = λ S G d R at.
    let x = c.args.context.now in
    let T = pipe_of c.args.pipe.now in
    let l = c.args.rows.now in
    let u = group-run c.args.k R at c.places-places.ensures.value refl in
    let e = c.alone-inner.ensures.value in
    let spent = c.run_at.ensures.steps S G (subst (λ x. RunsFrom x c.args.root.now S G T (at_places l c.places-places.result.now)) (sym e) u.runs) in
    let same = ap (λ x. cost x.world (readings x.customs) S T (at_places l c.places-places.result.now)) e in
    let costs = u.costs in
    let few = u.few in
    let given = subst (λ x. (S G : Shape) → RunsFrom x c.args.root.now S G T (at_places l c.places-places.result.now) → mean x.world (readings x.customs) S T (at_places l c.places-places.result.now) ≡ Some c.in_ok-results.results.items) c.alone-inner.ensures.value c.in_ok-results.ensures.mean in
    let made = ap result_length (u.means ∙ given S G u.runs) in
    let keyed = c.with_keys.ensures.steps in
    let charged : charge_of x S T l d ≡ length (at_places l d.1) + cost x.world (readings x.customs) S T (at_places l d.1) + result_length (mean x.world (readings x.customs) S T (at_places l d.1)) = refl in
    omega (arith, few, charged, spent, same, costs, made, keyed)

pub run_group-returns-in_err-with_keys-clause-grown : goal.run_group-returns-in_err-with_keys-clause-grown
run_group-returns-in_err-with_keys-clause-grown g t c = omega (arith, c.run_at.ensures.grown, c.with_keys.ensures.grown)

pub run_group-returns-clause-steps : goal.run_group-returns-clause-steps
run_group-returns-clause-steps g t c = λ S G d R at.
    let x = c.args.context.now in
    let T = pipe_of c.args.pipe.now in
    let l = c.args.rows.now in
    let u = group-run c.args.k R at c.places-places.ensures.value refl in
    let e = c.alone-inner.ensures.value in
    let spent = c.run_at.ensures.steps S G (subst (λ x. RunsFrom x c.args.root.now S G T (at_places l c.places-places.result.now)) (sym e) u.runs) in
    let same = ap (λ x. cost x.world (readings x.customs) S T (at_places l c.places-places.result.now)) e in
    let costs = u.costs in
    let few = u.few in
    let given = subst (λ x. (S G : Shape) → RunsFrom x c.args.root.now S G T (at_places l c.places-places.result.now) → mean x.world (readings x.customs) S T (at_places l c.places-places.result.now) ≡ Some c.in_ok-results.results.items) c.alone-inner.ensures.value c.in_ok-results.ensures.mean in
    let made = ap result_length (u.means ∙ given S G u.runs) in
    let keyed = c.with_keys.ensures.steps in
    let charged : charge_of x S T l d ≡ length (at_places l d.1) + cost x.world (readings x.customs) S T (at_places l d.1) + result_length (mean x.world (readings x.customs) S T (at_places l d.1)) = refl in
    omega (arith, few, charged, spent, same, costs, made, keyed)

pub run_group-returns-clause-grown : goal.run_group-returns-clause-grown
run_group-returns-clause-grown g t c = omega (arith, c.run_at.ensures.grown, c.with_keys.ensures.grown)

pub run_group-returns-clause-mean : goal.run_group-returns-clause-mean
run_group-returns-clause-mean g t c = λ S G d R at.
    let x = c.args.context.now in
    let T = pipe_of c.args.pipe.now in
    let l = c.args.rows.now in
    let level = c.args.level.now in
    let u = group-run c.args.k R at c.places-places.ensures.value refl in
    let given = subst (λ x. (S G : Shape) → RunsFrom x c.args.root.now S G T (at_places l c.places-places.result.now) → mean x.world (readings x.customs) S T (at_places l c.places-places.result.now) ≡ Some c.in_ok-results.results.items) c.alone-inner.ensures.value c.in_ok-results.ensures.mean in
    let own = c.as_slice.ensures.value ∙ read-key level.1 c.args.k d c.in_ok-key.key.items at c.in_ok-key.ensures.value in
    ap (option_map (map (λ r. extended r (keyed level.0 d.0)))) (u.means ∙ given S G u.runs)
    ∙ ap Some ((λ i. map (λ r. extended r (keyed (sym c.paths.ensures.value i) (sym own i))) c.in_ok-results.results.items) ∙ sym c.in_ok-with_keys.ensures.rows)

-- ---- the groups of a level

pub run_groups-returns-in_err-made-clause-mean : goal.run_groups-returns-in_err-made-clause-mean
run_groups-returns-in_err-made-clause-mean g t c = λ S G R.
    let x = c.args.context.now in
    let level = c.args.level.now in
    let T = pipe_of c.args.pipe.now in
    let l = c.args.rows.now in
    let u = next-group x S level T l c.loop-k.k _ c.loop-k-test.true c.len-k-end.ensures.value in
    let p = err_from_is_err_and c.from_residual.result c.from_residual.ensures.1 in
    rw (p.1, p.2) (gives-err c.in_err-made.field-0.0 _ _ (c.in_err-made.ensures.mean S G u.group R u.at)
    (next-refused (group_made level.0 (mean x.world (readings x.customs) S T) l) level.1 c.loop-k.k u.group c.loop-k.all.items _ u.within u.here (c.loop-k.invariant.1 S G R).0))

pub run_groups-returns-in_err-made-clause-steps : goal.run_groups-returns-in_err-made-clause-steps
run_groups-returns-in_err-made-clause-steps g t c = λ S G R.
    let x = c.args.context.now in
    let level = c.args.level.now in
    let T = pipe_of c.args.pipe.now in
    let l = c.args.rows.now in
    let u = next-group x S level T l c.loop-k.k _ c.loop-k-test.true c.len-k-end.ensures.value in
    let left = (c.loop-k.invariant.1 S G R).1 in
    let next = u.costs in
    let total = total-charge x S level T l in
    let spent = c.run_group.ensures.steps S G u.group R u.at in
    omega (arith, left, next, total, spent)

pub run_groups-returns-in_err-made-clause-grown : goal.run_groups-returns-in_err-made-clause-grown
run_groups-returns-in_err-made-clause-grown g t c = omega (arith, c.run_group.ensures.grown, c.loop-k.invariant.0)

pub run_groups-returns-in_err-append-clause-steps : goal.run_groups-returns-in_err-append-clause-steps
run_groups-returns-in_err-append-clause-steps g t c = λ S G R.
    let x = c.args.context.now in
    let level = c.args.level.now in
    let T = pipe_of c.args.pipe.now in
    let l = c.args.rows.now in
    let u = next-group x S level T l c.loop-k.k _ c.loop-k-test.true c.len-k-end.ensures.value in
    let left = (c.loop-k.invariant.1 S G R).1 in
    let next = u.costs in
    let total = total-charge x S level T l in
    let spent = c.run_group.ensures.steps S G u.group R u.at in
    omega (arith, left, next, total, spent)

pub run_groups-returns-in_err-append-clause-grown : goal.run_groups-returns-in_err-append-clause-grown
run_groups-returns-in_err-append-clause-grown g t c = omega (arith, c.run_group.ensures.grown, c.loop-k.invariant.0)

pub run_groups-loop-k-preserved : goal.run_groups-loop-k-preserved
run_groups-loop-k-preserved g t c = (
  omega (arith, c.run_group.ensures.grown, c.loop-k.invariant.0),
  λ S G R.
      let x = c.args.context.now in
      let level = c.args.level.now in
      let T = pipe_of c.args.pipe.now in
      let l = c.args.rows.now in
      let f : List Value × List ℕ → Outcome = group_made level.0 (mean x.world (readings x.customs) S T) l in
      let u = next-group x S level T l c.loop-k.k _ c.loop-k-test.true c.len-k-end.ensures.value in
      let inv = c.loop-k.invariant.1 S G R in
      let left = inv.1 in
      let next = u.costs in
      let spent = c.run_group.ensures.steps S G u.group R u.at in
      let appended : c.append.new.self.items ≡ c.loop-k.all.items ++ c.in_ok-made.made.items = search rules in (
        next-joined f level.1 c.loop-k.k u.group c.loop-k.all.items _ c.in_ok-made.made.items u.within u.here inv.0 (c.in_ok-made.ensures.mean S G u.group R u.at)
            ∙ ap (λ xs. option_map (λ rest. xs ++ rest) (joined (map f (drop (c.loop-k.k + 1) level.1)))) (sym appended),
        omega (arith, left, next, spent),
      ),
)

pub run_groups-returns-clause-mean : goal.run_groups-returns-clause-mean
run_groups-returns-clause-mean g t c = λ S G R.
    let x = c.args.context.now in
    let level = c.args.level.now in
    let counted = c.len-k-end.ensures.value in
    let past : length level.1 ≤ c.loop-k.k = omega (arith, c.loop-k-test.false, counted) in
    last-joined (group_made level.0 (mean x.world (readings x.customs) S (pipe_of c.args.pipe.now)) c.args.rows.now) level.1 c.loop-k.k c.loop-k.all.items _ past (c.loop-k.invariant.1 S G R).0

pub run_groups-returns-clause-steps : goal.run_groups-returns-clause-steps
run_groups-returns-clause-steps g t c = λ S G R.
    let left = (c.loop-k.invariant.1 S G R).1 in
    let total = total-charge c.args.context.now S c.args.level.now (pipe_of c.args.pipe.now) c.args.rows.now in
    omega (arith, left, total)

pub run_groups-returns-clause-grown : goal.run_groups-returns-clause-grown
run_groups-returns-clause-grown g t c = omega (arith, c.loop-k.invariant.0)

-- ---- the levels

pub run_levels-returns-in_err-made-clause-mean : goal.run_levels-returns-in_err-made-clause-mean
run_levels-returns-in_err-made-clause-mean g t c = λ S G R.
    let x = c.args.context.now in
    let T = pipe_of c.args.pipe.now in
    let l = c.args.rows.now in
    let levels = c.args.levels.now in
    let i = c.loop-i.i in
    let d = c.index-levels-i.result in
    let own = next-level levels i d R c.loop-i-test.true c.index-levels-i.is in
    let f : Level → Outcome = level_made (mean x.world (readings x.customs) S T) l in
    let p = err_from_is_err_and c.from_residual.result c.from_residual.ensures.1 in
    rw (p.1, p.2) (gives-err c.in_err-made.field-0.0 (f d) _ (c.in_err-made.ensures.mean S G own) (next-refused f levels i d c.loop-i.all.items _ c.loop-i-test.true c.index-levels-i.is (c.loop-i.invariant.1 S G R).0))

pub run_levels-returns-in_err-made-clause-steps : goal.run_levels-returns-in_err-made-clause-steps
run_levels-returns-in_err-made-clause-steps g t c = λ S G R.
    let x = c.args.context.now in
    let T = pipe_of c.args.pipe.now in
    let l = c.args.rows.now in
    let levels = c.args.levels.now in
    let i = c.loop-i.i in
    let d = c.index-levels-i.result in
    let own = next-level levels i d R c.loop-i-test.true c.index-levels-i.is in
    let left = (c.loop-i.invariant.1 S G R).1 in
    let next = level-costs x S T l levels i d c.loop-i-test.true c.index-levels-i.is in
    let spent = c.run_groups.ensures.steps S G own in
    omega (arith, left, next, spent)

pub run_levels-returns-in_err-made-clause-grown : goal.run_levels-returns-in_err-made-clause-grown
run_levels-returns-in_err-made-clause-grown g t c = omega (arith, c.run_groups.ensures.grown, c.loop-i.invariant.0)

pub run_levels-returns-in_err-append-clause-steps : goal.run_levels-returns-in_err-append-clause-steps
run_levels-returns-in_err-append-clause-steps g t c = λ S G R.
    let x = c.args.context.now in
    let T = pipe_of c.args.pipe.now in
    let l = c.args.rows.now in
    let levels = c.args.levels.now in
    let i = c.loop-i.i in
    let d = c.index-levels-i.result in
    let own = next-level levels i d R c.loop-i-test.true c.index-levels-i.is in
    let left = (c.loop-i.invariant.1 S G R).1 in
    let next = level-costs x S T l levels i d c.loop-i-test.true c.index-levels-i.is in
    let spent = c.run_groups.ensures.steps S G own in
    omega (arith, left, next, spent)

pub run_levels-returns-in_err-append-clause-grown : goal.run_levels-returns-in_err-append-clause-grown
run_levels-returns-in_err-append-clause-grown g t c = omega (arith, c.run_groups.ensures.grown, c.loop-i.invariant.0)

pub run_levels-loop-i-preserved : goal.run_levels-loop-i-preserved
run_levels-loop-i-preserved g t c = (
  omega (arith, c.run_groups.ensures.grown, c.loop-i.invariant.0),
  λ S G R.
      let x = c.args.context.now in
      let T = pipe_of c.args.pipe.now in
      let l = c.args.rows.now in
      let levels = c.args.levels.now in
      let i = c.loop-i.i in
      let d = c.index-levels-i.result in
      let own = next-level levels i d R c.loop-i-test.true c.index-levels-i.is in
      let f : Level → Outcome = level_made (mean x.world (readings x.customs) S T) l in
      let left = (c.loop-i.invariant.1 S G R).1 in
      let next = level-costs x S T l levels i d c.loop-i-test.true c.index-levels-i.is in
      let spent = c.run_groups.ensures.steps S G own in
      let appended : c.append.new.self.items ≡ c.loop-i.all.items ++ c.in_ok-made.made.items = search rules in (
        next-joined f levels i d c.loop-i.all.items _ c.in_ok-made.made.items c.loop-i-test.true c.index-levels-i.is (c.loop-i.invariant.1 S G R).0 (c.in_ok-made.ensures.mean S G own)
            ∙ ap (λ xs. option_map (λ rest. xs ++ rest) (joined (map f (drop (i + 1) levels)))) (sym appended),
        omega (arith, left, next, spent),
      ),
)

pub run_levels-returns-clause-mean : goal.run_levels-returns-clause-mean
run_levels-returns-clause-mean g t c = λ S G R.
    let x = c.args.context.now in
    let f : Level → Outcome = level_made (mean x.world (readings x.customs) S (pipe_of c.args.pipe.now)) c.args.rows.now in
    last-joined f c.args.levels.now c.loop-i.i c.loop-i.all.items _ (omega (arith, c.loop-i-test.false)) (c.loop-i.invariant.1 S G R).0

pub run_levels-returns-clause-steps : goal.run_levels-returns-clause-steps
run_levels-returns-clause-steps g t c = λ S G R.
    let left = (c.loop-i.invariant.1 S G R).1 in
    omega (arith, left)

pub run_levels-returns-clause-grown : goal.run_levels-returns-clause-grown
run_levels-returns-clause-grown g t c = omega (arith, c.loop-i.invariant.0)

-- ---- a grouping

pub run_step-run_grouping-requires-clause-ready : goal.run_step-run_grouping-requires-clause-ready
run_step-run_grouping-requires-clause-ready g t c κs within =
    ready-same c.args.context.now c.args.root.now _ _ _ _ refl (sym (c.of_rows-list.ensures.value ∙ c.as_slice.ensures.value)) c.requires.ready

pub run_step-run_grouping-requires-clause-named : goal.run_step-run_grouping-requires-clause-named
run_step-run_grouping-requires-clause-named g t c κs within = c.requires.named

pub run_step-returns-in-GroupBy-clause-mean : goal.run_step-returns-in-GroupBy-clause-mean
run_step-returns-in-GroupBy-clause-mean g t c = λ S S' R.
    gives-same c.run_grouping.result refl (sym (c.of_rows-list.ensures.value ∙ c.as_slice.ensures.value)) R (c.run_grouping.ensures.mean S S')

pub run_step-returns-in-GroupBy-clause-steps : goal.run_step-returns-in-GroupBy-clause-steps
run_step-returns-in-GroupBy-clause-steps g t c = λ S S' R.
    let x = c.args.context.now in
    let rows : c.args.rows.items ≡ c.of_rows-list.result = sym (c.of_rows-list.ensures.value ∙ c.as_slice.ensures.value) in
    let s = step_of c.args.step.now in
    let spent = c.run_grouping.ensures.steps S S' (runs-same x c.args.root.now S S' s s c.args.rows.items c.of_rows-list.result refl rows R) in
    let whole = cost-same x S s s c.args.rows.items c.of_rows-list.result refl rows in
    omega (arith, spent, whole)

pub run_step-returns-in-GroupBy-clause-grown : goal.run_step-returns-in-GroupBy-clause-grown
run_step-returns-in-GroupBy-clause-grown g t c = omega (arith, c.run_grouping.ensures.grown)

pub run_by_levels-grouping_levels-requires-clause-of : goal.run_by_levels-grouping_levels-requires-clause-of
run_by_levels-grouping_levels-requires-clause-of g t c κs within =
    let r = c.requires.ready in
    all-fit-of c.args.context.now.world r.0 c.args.rows.now (r.2).runs.fit

pub run_by_levels-grouping_levels-requires-clause-all : goal.run_by_levels-grouping_levels-requires-clause-all
run_by_levels-grouping_levels-requires-clause-all g t c κs within = c.as_slice-paths.ensures.value ∙ c.in_ok-paths-in-GroupBy.ensures.value

pub run_by_levels-grouping_levels-requires-clause-ready : goal.run_by_levels-grouping_levels-requires-clause-ready
run_by_levels-grouping_levels-requires-clause-ready g t c κs within =
    let r = c.requires.ready in
    keys-ready c.args.context.now c.args.root.now r.0 r.1 (keys_of c.in-GroupBy.keys) (inner_of (option_map pipe_of c.in-GroupBy.inner)) c.args.rows.now
    (subst (λ s. StepRunsFrom c.args.context.now c.args.root.now r.0 r.1 s c.args.rows.now) (ap step_of c.in-GroupBy.is ∙ step_of-GroupBy c.in-GroupBy.keys c.in-GroupBy.inner) r.2)

pub run_by_levels-grouping_levels-requires-clause-named : goal.run_by_levels-grouping_levels-requires-clause-named
run_by_levels-grouping_levels-requires-clause-named g t c κs within =
    let x = c.args.context.now in
    ready-front x (keys_hierarchies (keys_of c.in-GroupBy.keys)) (inner_hierarchies (inner_of (option_map pipe_of c.in-GroupBy.inner))) (subst (λ s. AreReady x (step_hierarchies s)) (ap step_of c.in-GroupBy.is ∙ step_of-GroupBy c.in-GroupBy.keys c.in-GroupBy.inner) c.requires.named)

pub run_by_levels-returns-in_err-levels-in-GroupBy-clause-mean : goal.run_by_levels-returns-in_err-levels-in-GroupBy-clause-mean
run_by_levels-returns-in_err-levels-in-GroupBy-clause-mean g t c = λ S S' R.
    let x = c.args.context.now in
    let l = c.args.rows.now in
    let ks = keys_of c.in-GroupBy.keys in
    let T = inner_of (option_map pipe_of c.in-GroupBy.inner) in
    let p = err_from_is_err_and c.from_residual-in_err-levels-in-GroupBy.result c.from_residual-in_err-levels-in-GroupBy.ensures.1 in
    let whole = step-mean-on x S (ap step_of c.in-GroupBy.is ∙ step_of-GroupBy c.in-GroupBy.keys c.in-GroupBy.inner) refl in
    rw (p.1, p.2) (subst (Gives (Err c.in_err-levels-in-GroupBy.field-0.0)) (sym whole) (levels-err x.world (readings x.customs) S ks T l c.in_err-levels-in-GroupBy.field-0.0 c.in_err-levels-in-GroupBy.ensures.levels))

pub run_by_levels-returns-in_err-levels-in-GroupBy-clause-steps : goal.run_by_levels-returns-in_err-levels-in-GroupBy-clause-steps
run_by_levels-returns-in_err-levels-in-GroupBy-clause-steps g t c = λ S S' R.
    let x = c.args.context.now in
    let l = c.args.rows.now in
    let ks = keys_of c.in-GroupBy.keys in
    let T = inner_of (option_map pipe_of c.in-GroupBy.inner) in
    let spent = c.grouping_levels.ensures.steps in
    let least = keys-least x.world (readings x.customs) S ks T l in
    let whole = step-cost-on x S {l = l} (ap step_of c.in-GroupBy.is ∙ step_of-GroupBy c.in-GroupBy.keys c.in-GroupBy.inner) refl in
    omega (arith, spent, least, whole)

pub run_by_levels-returns-in_err-levels-in-GroupBy-clause-grown : goal.run_by_levels-returns-in_err-levels-in-GroupBy-clause-grown
run_by_levels-returns-in_err-levels-in-GroupBy-clause-grown g t c = omega (arith, c.grouping_levels.ensures.grown)

pub run_by_levels-first_lists-requires-clause-of : goal.run_by_levels-first_lists-requires-clause-of
run_by_levels-first_lists-requires-clause-of g t c κs within =
    let r = c.requires.ready in
    all-fit-of c.args.context.now.world r.0 c.args.rows.now (r.2).runs.fit

pub run_by_levels-returns-in_err-lists-in-Some-clause-steps : goal.run_by_levels-returns-in_err-lists-in-Some-clause-steps
run_by_levels-returns-in_err-lists-in-Some-clause-steps g t c = λ S S' R.
    let x = c.args.context.now in
    let spent = c.grouping_levels.ensures.steps in
    let least = keys-least x.world (readings x.customs) S (keys_of c.in-GroupBy.keys) (inner_of (option_map pipe_of c.in-GroupBy.inner)) c.args.rows.now in
    let whole = step-cost-on x S {l = c.args.rows.now} (ap step_of c.in-GroupBy.is ∙ step_of-GroupBy c.in-GroupBy.keys c.in-GroupBy.inner) refl in
    omega (arith, spent, least, whole)

pub run_by_levels-run_levels-requires-clause-lists : goal.run_by_levels-run_levels-requires-clause-lists
run_by_levels-run_levels-requires-clause-lists g t c κs within =
    subst (AreFirstLists c.args.context.now.world c.args.rows.now (pipe_of c.in-Some.pipe)) (sym c.as_slice-lists.ensures.value) c.in_ok-lists-in-Some.ensures.lists

pub run_by_levels-run_levels-requires-clause-ready : goal.run_by_levels-run_levels-requires-clause-ready
run_by_levels-run_levels-requires-clause-ready g t c κs within =
    let r = c.requires.ready in
    let x = c.args.context.now in
    let l = c.args.rows.now in
    let ks = keys_of c.in-GroupBy.keys in
    let e = ap step_of c.in-GroupBy.is ∙ step_of-GroupBy c.in-GroupBy.keys c.in-GroupBy.inner ∙ ap (λ o. tree.Step.GroupBy ks (inner_of (option_map pipe_of o))) c.in-Some.is in
    let u = grouping-run c.in_ok-levels-in-GroupBy.levels (subst IsLoaded c.store.ensures.value c.data_is_loaded.ensures.value) c.in_ok-levels-in-GroupBy.ensures.levels c.as_slice-levels.ensures.value (step-runs-on e refl r.2) in
    (r.0, u.shape, u.runs)

pub run_by_levels-run_levels-requires-clause-named : goal.run_by_levels-run_levels-requires-clause-named
run_by_levels-run_levels-requires-clause-named g t c κs within =
    let x = c.args.context.now in
    let ks = keys_of c.in-GroupBy.keys in
    let e = ap step_of c.in-GroupBy.is ∙ step_of-GroupBy c.in-GroupBy.keys c.in-GroupBy.inner ∙ ap (λ o. tree.Step.GroupBy ks (inner_of (option_map pipe_of o))) c.in-Some.is in
    ready-back x (keys_hierarchies ks) (inner_hierarchies (tree.OptPipe.SomePipe (pipe_of c.in-Some.pipe))) (subst (λ s. AreReady x (step_hierarchies s)) e c.requires.named)

pub run_by_levels-key_rows-requires : goal.run_by_levels-key_rows-requires
run_by_levels-key_rows-requires g t c =
    let r = c.requires.ready in
    let x = c.args.context.now in
    let l = c.args.rows.now in
    let ks = keys_of c.in-GroupBy.keys in
    record { differ = (levels-found c.in_ok-levels-in-GroupBy.levels (step-runs-on (ap step_of c.in-GroupBy.is ∙ step_of-GroupBy c.in-GroupBy.keys c.in-GroupBy.inner) refl r.2) c.in_ok-levels-in-GroupBy.ensures.levels c.as_slice.ensures.value).differ }

pub run_by_levels-returns-in-Some-clause-mean : goal.run_by_levels-returns-in-Some-clause-mean
run_by_levels-returns-in-Some-clause-mean g t c = λ S S' R.
    let x = c.args.context.now in
    let l = c.args.rows.now in
    let ks = keys_of c.in-GroupBy.keys in
    let e = ap step_of c.in-GroupBy.is ∙ step_of-GroupBy c.in-GroupBy.keys c.in-GroupBy.inner ∙ ap (λ o. tree.Step.GroupBy ks (inner_of (option_map pipe_of o))) c.in-Some.is in
    let u = grouping-run c.in_ok-levels-in-GroupBy.levels (subst IsLoaded c.store.ensures.value c.data_is_loaded.ensures.value) c.in_ok-levels-in-GroupBy.ensures.levels c.as_slice-levels.ensures.value (step-runs-on e refl R) in
    subst (Gives c.run_levels.result) (sym u.means ∙ sym (step-mean-on x S e refl)) (c.run_levels.ensures.mean S u.shape u.runs)

pub run_by_levels-returns-in-Some-clause-steps : goal.run_by_levels-returns-in-Some-clause-steps
run_by_levels-returns-in-Some-clause-steps g t c = λ S S' R.
    let x = c.args.context.now in
    let l = c.args.rows.now in
    let ks = keys_of c.in-GroupBy.keys in
    let e = ap step_of c.in-GroupBy.is ∙ step_of-GroupBy c.in-GroupBy.keys c.in-GroupBy.inner ∙ ap (λ o. tree.Step.GroupBy ks (inner_of (option_map pipe_of o))) c.in-Some.is in
    let u = grouping-run c.in_ok-levels-in-GroupBy.levels (subst IsLoaded c.store.ensures.value c.data_is_loaded.ensures.value) c.in_ok-levels-in-GroupBy.ensures.levels c.as_slice-levels.ensures.value (step-runs-on e refl R) in
    let found = c.grouping_levels.ensures.steps in
    let spent = c.run_levels.ensures.steps S u.shape u.runs in
    let least = u.costs in
    let whole = step-cost-on x S {l = l} e refl in
    omega (arith, found, spent, least, whole)

pub run_by_levels-returns-in-Some-clause-grown : goal.run_by_levels-returns-in-Some-clause-grown
run_by_levels-returns-in-Some-clause-grown g t c = omega (arith, c.grouping_levels.ensures.grown, c.run_levels.ensures.grown)

pub run_by_levels-returns-in-GroupBy-clause-mean : goal.run_by_levels-returns-in-GroupBy-clause-mean
run_by_levels-returns-in-GroupBy-clause-mean g t c = λ S S' R.
    let x = c.args.context.now in
    let l = c.args.rows.now in
    let ks = keys_of c.in-GroupBy.keys in
    let e = ap step_of c.in-GroupBy.is ∙ step_of-GroupBy c.in-GroupBy.keys c.in-GroupBy.inner ∙ ap (λ o. tree.Step.GroupBy ks (inner_of (option_map pipe_of o))) c.in-None.is in
    let u = levels-found c.in_ok-levels-in-GroupBy.levels (step-runs-on e refl R) c.in_ok-levels-in-GroupBy.ensures.levels c.as_slice.ensures.value in
    step-mean-on x S e refl ∙ u.rows ∙ ap Some (sym c.in_ok-key_rows-in-None.ensures.rows)

pub run_by_levels-returns-in_err-key_rows-in-None-clause-steps : goal.run_by_levels-returns-in_err-key_rows-in-None-clause-steps
run_by_levels-returns-in_err-key_rows-in-None-clause-steps g t c = λ S S' R.
    let x = c.args.context.now in
    let l = c.args.rows.now in
    let ks = keys_of c.in-GroupBy.keys in
    let e = ap step_of c.in-GroupBy.is ∙ step_of-GroupBy c.in-GroupBy.keys c.in-GroupBy.inner ∙ ap (λ o. tree.Step.GroupBy ks (inner_of (option_map pipe_of o))) c.in-None.is in
    let u = levels-found c.in_ok-levels-in-GroupBy.levels (step-runs-on e refl R) c.in_ok-levels-in-GroupBy.ensures.levels c.as_slice.ensures.value in
    let found = c.grouping_levels.ensures.steps in
    let spent = c.key_rows.ensures.steps in
    let least = u.costs in
    let whole = step-cost-on x S {l = l} e refl in
    omega (arith, found, spent, least, whole)

pub run_by_levels-returns-in_err-key_rows-in-None-clause-grown : goal.run_by_levels-returns-in_err-key_rows-in-None-clause-grown
run_by_levels-returns-in_err-key_rows-in-None-clause-grown g t c = omega (arith, c.grouping_levels.ensures.grown, c.key_rows.ensures.grown)

pub run_by_levels-returns-in-GroupBy-clause-steps : goal.run_by_levels-returns-in-GroupBy-clause-steps
run_by_levels-returns-in-GroupBy-clause-steps g t c = λ S S' R.
    let x = c.args.context.now in
    let l = c.args.rows.now in
    let ks = keys_of c.in-GroupBy.keys in
    let e = ap step_of c.in-GroupBy.is ∙ step_of-GroupBy c.in-GroupBy.keys c.in-GroupBy.inner ∙ ap (λ o. tree.Step.GroupBy ks (inner_of (option_map pipe_of o))) c.in-None.is in
    let u = levels-found c.in_ok-levels-in-GroupBy.levels (step-runs-on e refl R) c.in_ok-levels-in-GroupBy.ensures.levels c.as_slice.ensures.value in
    let found = c.grouping_levels.ensures.steps in
    let spent = c.key_rows.ensures.steps in
    let least = u.costs in
    let whole = step-cost-on x S {l = l} e refl in
    omega (arith, found, spent, least, whole)

pub run_by_levels-returns-in-GroupBy-clause-grown : goal.run_by_levels-returns-in-GroupBy-clause-grown
run_by_levels-returns-in-GroupBy-clause-grown g t c = omega (arith, c.grouping_levels.ensures.grown, c.key_rows.ensures.grown)

-- ---- a selection

pub run_step-select_rows-requires-clause-of : goal.run_step-select_rows-requires-clause-of
run_step-select_rows-requires-clause-of g t c κs within = c.selection_ready.ensures.of

pub run_step-select_rows-requires-clause-limit : goal.run_step-select_rows-requires-clause-limit
run_step-select_rows-requires-clause-limit g t c κs within = c.selection_ready.ensures.limit

pub run_step-returns-in-TopBy-clause-mean : goal.run_step-returns-in-TopBy-clause-mean
run_step-returns-in-TopBy-clause-mean g t c = λ S S' R.
    let x = c.args.context.now in
    let l = c.args.rows.items in
    let s = top_of c.in-TopBy.top in
    subst (Gives c.select_rows.result) (sym (ap (λ s. step_mean x.world (readings x.customs) S s l) (ap step_of c.in-TopBy.is ∙ step_of-TopBy c.in-TopBy.top) ∙ step_mean-TopBy x.world (readings x.customs) S s l))
    c.select_rows.ensures.mean

-- ---- a concatenation

pub run_step-returns-in-Concat-clause-mean : goal.run_step-returns-in-Concat-clause-mean
run_step-returns-in-Concat-clause-mean g t c = λ S S' R.
    let e = ap step_of c.in-Concat.is ∙ step_of-Concat c.in-Concat.branches in
    gives-same c.run_concat.result e (sym c.as_slice-in-Concat.ensures.value) R (c.run_concat.ensures.mean S S')

pub run_step-returns-in-Concat-clause-steps : goal.run_step-returns-in-Concat-clause-steps
run_step-returns-in-Concat-clause-steps g t c = λ S S' R.
    let x = c.args.context.now in
    let e = ap step_of c.in-Concat.is ∙ step_of-Concat c.in-Concat.branches in
    let rows : c.args.rows.items ≡ c.as_slice-in-Concat.result.now = sym c.as_slice-in-Concat.ensures.value in
    let spent = c.run_concat.ensures.steps S S' (runs-same x c.args.root.now S S' _ _ _ _ e rows R) in
    let whole = cost-same x S _ _ _ _ e rows in
    omega (arith, spent, whole)

pub run_step-returns-in-Concat-clause-grown : goal.run_step-returns-in-Concat-clause-grown
run_step-returns-in-Concat-clause-grown g t c = omega (arith, c.run_concat.ensures.grown)

pub run_concat-run_branches-requires-clause-ready : goal.run_concat-run_branches-requires-clause-ready
run_concat-run_branches-requires-clause-ready g t c κs within =
    subst (λ bs. BranchesReady c.args.context.now c.args.root.now (map pipe_of bs) c.args.rows.now) (sym c.as_slice.ensures.value) c.branches_ready.ensures

pub run_concat-run_branches-requires-clause-named : goal.run_concat-run_branches-requires-clause-named
run_concat-run_branches-requires-clause-named g t c κs within =
    subst (λ bs. (n : ℕ) (p : Pipe) → slice_get (map pipe_of bs) n ≡ Some p → AreReady c.args.context.now (hierarchies p)) (sym c.as_slice.ensures.value)
    (ready-branch c.args.context.now (map pipe_of (pipes_in c.args.branches.now)) (subst (λ ps. AreReady c.args.context.now (branch_hierarchies ps)) (pipes_of-is c.args.branches.now) c.requires.named))

pub run_concat-returns-in_err-parts-clause-mean : goal.run_concat-returns-in_err-parts-clause-mean
run_concat-returns-in_err-parts-clause-mean g t c = λ S S' R.
    let u = concat-run c.args.branches.now c.as_slice.result.now c.as_slice.ensures.value R in
    let p = err_from_is_err_and c.from_residual.result c.from_residual.ensures.1 in
    rw (p.1, p.2) (joined-err c.in_err-parts.field-0.0 _ (flat_map (λ part. part)) _ u.means (c.in_err-parts.ensures.mean S u.runs))

pub run_concat-returns-in_err-parts-clause-steps : goal.run_concat-returns-in_err-parts-clause-steps
run_concat-returns-in_err-parts-clause-steps g t c = λ S S' R.
    let u = concat-run c.args.branches.now c.as_slice.result.now c.as_slice.ensures.value R in
    let spent = c.run_branches.ensures.steps S u.runs in
    let least = u.costs in
    omega (arith, spent, least)

pub run_concat-returns-in_err-parts-clause-grown : goal.run_concat-returns-in_err-parts-clause-grown
run_concat-returns-in_err-parts-clause-grown g t c = omega (arith, c.run_branches.ensures.grown)

pub run_concat-returns-in_err-concat-clause-steps : goal.run_concat-returns-in_err-concat-clause-steps
run_concat-returns-in_err-concat-clause-steps g t c = λ S S' R.
    let u = concat-run c.args.branches.now c.as_slice.result.now c.as_slice.ensures.value R in
    let spent = c.run_branches.ensures.steps S u.runs in
    let least = u.costs in
    omega (arith, spent, least)

pub run_concat-returns-in_err-concat-clause-grown : goal.run_concat-returns-in_err-concat-clause-grown
run_concat-returns-in_err-concat-clause-grown g t c = omega (arith, c.run_branches.ensures.grown)

pub run_concat-returns-clause-steps : goal.run_concat-returns-clause-steps
run_concat-returns-clause-steps g t c = λ S S' R.
    let u = concat-run c.args.branches.now c.as_slice.result.now c.as_slice.ensures.value R in
    let spent = c.run_branches.ensures.steps S u.runs in
    let least = u.costs in
    omega (arith, spent, least)

pub run_concat-returns-clause-grown : goal.run_concat-returns-clause-grown
run_concat-returns-clause-grown g t c = omega (arith, c.run_branches.ensures.grown)

pub run_concat-returns-clause-mean : goal.run_concat-returns-clause-mean
run_concat-returns-clause-mean g t c = λ S S' R.
    let u = concat-run c.args.branches.now c.as_slice.result.now c.as_slice.ensures.value R in
    u.means ∙ ap (option_map (flat_map (λ part. part))) (c.in_ok-parts.ensures.mean S u.runs)
    ∙ ap Some (flat_map-map (λ part. part) (λ (part : Vec Instance). part.items) c.in_ok-parts.parts.items ∙ sym c.in_ok-concat.ensures.value)

-- ---- the branches

pub run_branches-run_pipe-requires-clause-ready : goal.run_branches-run_pipe-requires-clause-ready
run_branches-run_pipe-requires-clause-ready g t c κs within =
    subst (λ l. ReadyFrom c.args.context.now c.args.root.now (pipe_of c.index-branches-k.result) l) (sym c.in_ok-copies.ensures.rows) c.branch_ready.ensures

pub run_branches-run_pipe-requires-clause-named : goal.run_branches-run_pipe-requires-clause-named
run_branches-run_pipe-requires-clause-named g t c κs within =
    c.requires.named c.loop-k.k (pipe_of c.index-branches-k.result) (branch-at c.args.branches.now c.loop-k.k c.index-branches-k.result c.loop-k-test.true c.index-branches-k.is)

pub run_branches-returns-in_err-copies-clause-steps : goal.run_branches-returns-in_err-copies-clause-steps
run_branches-returns-in_err-copies-clause-steps g t c = λ S R.
    let u = branch-turn c.args.context.now c.args.root.now S c.args.branches.now c.args.rows.now c.args.rows.now c.loop-k.k c.index-branches-k.result R c.loop-k-test.true c.index-branches-k.is refl in
    let left = (c.loop-k.invariant.1 S R).1 in
    let next = u.costs in
    let copied = c.copy_rows.ensures.steps in
    omega (arith, left, next, copied)

pub run_branches-returns-in_err-copies-clause-grown : goal.run_branches-returns-in_err-copies-clause-grown
run_branches-returns-in_err-copies-clause-grown g t c = omega (arith, c.copy_rows.ensures.grown, c.loop-k.invariant.0)

pub run_branches-returns-in_err-run_pipe-clause-mean : goal.run_branches-returns-in_err-run_pipe-clause-mean
run_branches-returns-in_err-run_pipe-clause-mean g t c = λ S R.
    let x = c.args.context.now in
    let u = branch-turn c.args.context.now c.args.root.now S c.args.branches.now c.args.rows.now c.in_ok-copies.copies.items c.loop-k.k c.index-branches-k.result R c.loop-k-test.true c.index-branches-k.is c.in_ok-copies.ensures.rows in
    let p = err_from_is_err_and c.from_residual-in_err-run_pipe.result c.from_residual-in_err-run_pipe.ensures.1 in
    rw (p.1, p.2) (gives-all_err c.in_err-run_pipe.field-0.0 _ _ (c.in_err-run_pipe.ensures.mean S u.shape u.runs)
    (λ n. next-list_refused (λ p. mean x.world (readings x.customs) S p c.args.rows.now) _ c.loop-k.k (pipe_of c.index-branches-k.result) _ _ u.within u.here (c.loop-k.invariant.1 S R).0 (u.means ∙ n)))

pub run_branches-returns-in_err-run_pipe-clause-steps : goal.run_branches-returns-in_err-run_pipe-clause-steps
run_branches-returns-in_err-run_pipe-clause-steps g t c = λ S R.
    let u = branch-turn c.args.context.now c.args.root.now S c.args.branches.now c.args.rows.now c.in_ok-copies.copies.items c.loop-k.k c.index-branches-k.result R c.loop-k-test.true c.index-branches-k.is c.in_ok-copies.ensures.rows in
    let ran = c.run_pipe.ensures.steps S u.shape u.runs in
    let left = (c.loop-k.invariant.1 S R).1 in
    let next = u.costs in
    let copied = c.copy_rows.ensures.steps in
    omega (arith, left, next, copied, ran)

pub run_branches-returns-in_err-run_pipe-clause-grown : goal.run_branches-returns-in_err-run_pipe-clause-grown
run_branches-returns-in_err-run_pipe-clause-grown g t c = omega (arith, c.copy_rows.ensures.grown, c.run_pipe.ensures.grown, c.loop-k.invariant.0)

pub run_branches-returns-in_err-push-clause-steps : goal.run_branches-returns-in_err-push-clause-steps
run_branches-returns-in_err-push-clause-steps g t c = λ S R.
    let u = branch-turn c.args.context.now c.args.root.now S c.args.branches.now c.args.rows.now c.in_ok-copies.copies.items c.loop-k.k c.index-branches-k.result R c.loop-k-test.true c.index-branches-k.is c.in_ok-copies.ensures.rows in
    let ran = c.run_pipe.ensures.steps S u.shape u.runs in
    let left = (c.loop-k.invariant.1 S R).1 in
    let next = u.costs in
    let copied = c.copy_rows.ensures.steps in
    omega (arith, left, next, copied, ran)

pub run_branches-returns-in_err-push-clause-grown : goal.run_branches-returns-in_err-push-clause-grown
run_branches-returns-in_err-push-clause-grown g t c = omega (arith, c.copy_rows.ensures.grown, c.run_pipe.ensures.grown, c.loop-k.invariant.0)

pub run_branches-loop-k-preserved : goal.run_branches-loop-k-preserved
run_branches-loop-k-preserved g t c = (
  omega (arith, c.copy_rows.ensures.grown, c.run_pipe.ensures.grown, c.loop-k.invariant.0),
  λ S R.
      let x = c.args.context.now in
      let made : Vec Instance → List Instance = λ part. part.items in
      let f : Pipe → Outcome = λ p. mean x.world (readings x.customs) S p c.args.rows.now in
      let u = branch-turn c.args.context.now c.args.root.now S c.args.branches.now c.args.rows.now c.in_ok-copies.copies.items c.loop-k.k c.index-branches-k.result R c.loop-k-test.true c.index-branches-k.is c.in_ok-copies.ensures.rows in
      let pushed = ap (map made) c.in_ok-push.ensures.items ∙ map-append made c.loop-k.parts.items (c.in_ok-run_pipe.field-0 ∷ []) in
      let inv = c.loop-k.invariant.1 S R in
      let ran = c.run_pipe.ensures.steps S u.shape u.runs in
      let left = inv.1 in
      let next = u.costs in
      let copied = c.copy_rows.ensures.steps in (
        next-list f _ c.loop-k.k (pipe_of c.index-branches-k.result) _ _ c.in_ok-run_pipe.field-0.items u.within u.here inv.0 (u.means ∙ c.in_ok-run_pipe.ensures.mean S u.shape u.runs)
            ∙ ap (λ a. option_map (λ rest. a ++ rest) (all_some (map f (drop (c.loop-k.k + 1) (map pipe_of c.args.branches.now))))) (sym pushed),
        omega (arith, left, next, copied, ran),
      ),
)

pub run_branches-returns-clause-mean : goal.run_branches-returns-clause-mean
run_branches-returns-clause-mean g t c = λ S R.
    let x = c.args.context.now in
    let long = length-map c.args.branches.now pipe_of in
    last-list (λ p. mean x.world (readings x.customs) S p c.args.rows.now) _ c.loop-k.k _ _ (omega (arith, long, c.loop-k-test.false)) (c.loop-k.invariant.1 S R).0

pub run_branches-returns-clause-steps : goal.run_branches-returns-clause-steps
run_branches-returns-clause-steps g t c = λ S R.
    let left = (c.loop-k.invariant.1 S R).1 in
    omega (arith, left)

pub run_branches-returns-clause-grown : goal.run_branches-returns-clause-grown
run_branches-returns-clause-grown g t c = omega (arith, c.loop-k.invariant.0)

-- ---- a join

pub run_step-returns-in-Join-clause-mean : goal.run_step-returns-in-Join-clause-mean
run_step-returns-in-Join-clause-mean g t c = λ S S' R.
    let e = ap step_of c.in-Join.is ∙ step_of-Join c.in-Join.join in
    gives-same c.run_join.result e (sym c.as_slice-in-Join.ensures.value) R (c.run_join.ensures.mean S S')

pub run_step-returns-in-Join-clause-steps : goal.run_step-returns-in-Join-clause-steps
run_step-returns-in-Join-clause-steps g t c = λ S S' R.
    let x = c.args.context.now in
    let e = ap step_of c.in-Join.is ∙ step_of-Join c.in-Join.join in
    let rows : c.args.rows.items ≡ c.as_slice-in-Join.result.now = sym c.as_slice-in-Join.ensures.value in
    let spent = c.run_join.ensures.steps S S' (runs-same x c.args.root.now S S' _ _ _ _ e rows R) in
    let whole = cost-same x S _ _ _ _ e rows in
    omega (arith, spent, whole)

pub run_step-returns-in-Join-clause-grown : goal.run_step-returns-in-Join-clause-grown
run_step-returns-in-Join-clause-grown g t c = omega (arith, c.run_join.ensures.grown)

pub run_join-run_joined-requires-clause-ready : goal.run_join-run_joined-requires-clause-ready
run_join-run_joined-requires-clause-ready g t c κs within = ready-same c.args.context.now c.args.root.now _ _ c.args.rows.now c.args.rows.now (join_of-is c.args.join.now) refl c.requires.ready

pub run_join-run_joined-requires-clause-named : goal.run_join-run_joined-requires-clause-named
run_join-run_joined-requires-clause-named g t c κs within = subst (λ s. AreReady c.args.context.now (step_hierarchies s)) (join_of-is c.args.join.now) c.requires.named

pub run_join-returns-clause-mean : goal.run_join-returns-clause-mean
run_join-returns-clause-mean g t c = λ S S' R. gives-same c.run_joined.result (join_of-is c.args.join.now) refl R (c.run_joined.ensures.mean S S')

pub run_join-returns-clause-steps : goal.run_join-returns-clause-steps
run_join-returns-clause-steps g t c = λ S S' R.
    let x = c.args.context.now in
    let l = c.args.rows.now in
    let e = join_of-is c.args.join.now in
    let spent = c.run_joined.ensures.steps S S' (runs-same x c.args.root.now S S' _ _ l l e refl R) in
    let whole = cost-same x S _ _ l l e refl in
    omega (arith, spent, whole)

pub run_join-returns-clause-grown : goal.run_join-returns-clause-grown
run_join-returns-clause-grown g t c = omega (arith, c.run_joined.ensures.grown)

-- ---- a join of parts

pub run_joined-run_related-requires-clause-many : goal.run_joined-run_related-requires-clause-many
run_joined-run_related-requires-clause-many g t c κs within = λ v h.
    let u = join-run c.join_navigation-found.result c.requires.ready.2 c.join_navigation-found.ensures.value c.related_ready.ensures in
    ap (λ (v : Navigation). v.many) (some_value (sym h ∙ u.at)) ∙ u.many

pub run_joined-returns-in_err-results-clause-mean : goal.run_joined-returns-in_err-results-clause-mean
run_joined-returns-in_err-results-clause-mean g t c = λ S S' R.
    let u = join-run c.join_navigation-found.result R c.join_navigation-found.ensures.value c.related_ready.ensures in
    let p = err_from_is_err_and c.from_residual.result c.from_residual.ensures.1 in
    rw (p.1, p.2) (joined-err c.in_err-results.field-0.0 _ (bound_rows c.args.outer c.args.alias.now c.args.rows.now) _ u.means (c.in_err-results.ensures.mean u.navigation u.shape u.at u.runs))

pub run_joined-returns-in_err-results-clause-steps : goal.run_joined-returns-in_err-results-clause-steps
run_joined-returns-in_err-results-clause-steps g t c = λ S S' R.
    let u = join-run c.join_navigation-found.result R c.join_navigation-found.ensures.value c.related_ready.ensures in
    let ran = c.run_related.ensures.steps u.navigation u.shape u.at u.runs in
    let whole = u.costs in
    omega (arith, ran, whole)

pub run_joined-returns-in_err-results-clause-grown : goal.run_joined-returns-in_err-results-clause-grown
run_joined-returns-in_err-results-clause-grown g t c = omega (arith, c.run_related.ensures.grown)

pub run_joined-outerjoin-requires-clause-lists : goal.run_joined-outerjoin-requires-clause-lists
run_joined-outerjoin-requires-clause-lists g t c =
    let u = join-run c.join_navigation-found.result c.requires.ready.2 c.join_navigation-found.ensures.value c.related_ready.ensures in
    (lists-made {parts = c.as_slice.result.now} c.in_ok-results.results.items c.as_slice.ensures.value (c.in_ok-results.ensures.mean u.navigation u.shape u.at u.runs)).long

pub run_joined-returns-then-outer-clause-mean : goal.run_joined-returns-then-outer-clause-mean
run_joined-returns-then-outer-clause-mean g t c = λ S S' R.
    let u = join-run c.join_navigation-found.result R c.join_navigation-found.ensures.value c.related_ready.ensures in
    let made = lists-made c.in_ok-results.results.items c.as_slice.ensures.value (c.in_ok-results.ensures.mean u.navigation u.shape u.at u.runs) in
    made-mean true u c.if-outer.true made _ c.in_ok-outerjoin.ensures.rows

pub run_joined-returns-in_err-outerjoin-clause-steps : goal.run_joined-returns-in_err-outerjoin-clause-steps
run_joined-returns-in_err-outerjoin-clause-steps g t c = λ S S' R.
    let u = join-run c.join_navigation-found.result R c.join_navigation-found.ensures.value c.related_ready.ensures in
    let made = lists-made c.in_ok-results.results.items c.as_slice.ensures.value (c.in_ok-results.ensures.mean u.navigation u.shape u.at u.runs) in
    let ran = c.run_related.ensures.steps u.navigation u.shape u.at u.runs in
    let spent = c.outerjoin.ensures.steps in
    let rows = ap result_length (made-mean true u c.if-outer.true made _ refl) in
    let whole = u.costs in
    omega (arith, ran, spent, rows, whole)

pub run_joined-returns-in_err-outerjoin-clause-grown : goal.run_joined-returns-in_err-outerjoin-clause-grown
run_joined-returns-in_err-outerjoin-clause-grown g t c = omega (arith, c.run_related.ensures.grown, c.outerjoin.ensures.grown)

pub run_joined-returns-then-outer-clause-steps : goal.run_joined-returns-then-outer-clause-steps
run_joined-returns-then-outer-clause-steps g t c = λ S S' R.
    let u = join-run c.join_navigation-found.result R c.join_navigation-found.ensures.value c.related_ready.ensures in
    let made = lists-made c.in_ok-results.results.items c.as_slice.ensures.value (c.in_ok-results.ensures.mean u.navigation u.shape u.at u.runs) in
    let ran = c.run_related.ensures.steps u.navigation u.shape u.at u.runs in
    let spent = c.outerjoin.ensures.steps in
    let rows = ap result_length (made-mean true u c.if-outer.true made _ refl) in
    let whole = u.costs in
    omega (arith, ran, spent, rows, whole)

pub run_joined-returns-then-outer-clause-grown : goal.run_joined-returns-then-outer-clause-grown
run_joined-returns-then-outer-clause-grown g t c = omega (arith, c.run_related.ensures.grown, c.outerjoin.ensures.grown)

pub run_joined-join-requires-clause-lists : goal.run_joined-join-requires-clause-lists
run_joined-join-requires-clause-lists g t c =
    let u = join-run c.join_navigation-found.result c.requires.ready.2 c.join_navigation-found.ensures.value c.related_ready.ensures in
    (lists-made {parts = c.as_slice-else-outer.result.now} c.in_ok-results.results.items c.as_slice-else-outer.ensures.value (c.in_ok-results.ensures.mean u.navigation u.shape u.at u.runs)).long

pub run_joined-returns-clause-mean : goal.run_joined-returns-clause-mean
run_joined-returns-clause-mean g t c = λ S S' R.
    let u = join-run c.join_navigation-found.result R c.join_navigation-found.ensures.value c.related_ready.ensures in
    let made = lists-made c.in_ok-results.results.items c.as_slice-else-outer.ensures.value (c.in_ok-results.ensures.mean u.navigation u.shape u.at u.runs) in
    made-mean false u c.if-outer.false made _ c.in_ok-join.ensures.rows

pub run_joined-returns-in_err-join-clause-steps : goal.run_joined-returns-in_err-join-clause-steps
run_joined-returns-in_err-join-clause-steps g t c = λ S S' R.
    let u = join-run c.join_navigation-found.result R c.join_navigation-found.ensures.value c.related_ready.ensures in
    let made = lists-made c.in_ok-results.results.items c.as_slice-else-outer.ensures.value (c.in_ok-results.ensures.mean u.navigation u.shape u.at u.runs) in
    let ran = c.run_related.ensures.steps u.navigation u.shape u.at u.runs in
    let spent = c.join.ensures.steps in
    let rows = ap result_length (made-mean false u c.if-outer.false made _ refl) in
    let whole = u.costs in
    omega (arith, ran, spent, rows, whole)

pub run_joined-returns-in_err-join-clause-grown : goal.run_joined-returns-in_err-join-clause-grown
run_joined-returns-in_err-join-clause-grown g t c = omega (arith, c.run_related.ensures.grown, c.join.ensures.grown)

pub run_joined-returns-clause-steps : goal.run_joined-returns-clause-steps
run_joined-returns-clause-steps g t c = λ S S' R.
    let u = join-run c.join_navigation-found.result R c.join_navigation-found.ensures.value c.related_ready.ensures in
    let made = lists-made c.in_ok-results.results.items c.as_slice-else-outer.ensures.value (c.in_ok-results.ensures.mean u.navigation u.shape u.at u.runs) in
    let ran = c.run_related.ensures.steps u.navigation u.shape u.at u.runs in
    let spent = c.join.ensures.steps in
    let rows = ap result_length (made-mean false u c.if-outer.false made _ refl) in
    let whole = u.costs in
    omega (arith, ran, spent, rows, whole)

pub run_joined-returns-clause-grown : goal.run_joined-returns-clause-grown
run_joined-returns-clause-grown g t c = omega (arith, c.run_related.ensures.grown, c.join.ensures.grown)

-- ---- what is related to each row

pub run_related-related_rows-requires-clause-there : goal.run_related-related_rows-requires-clause-there
run_related-related_rows-requires-clause-there g t c = subst (λ (w : World). IsNavigation w.model c.args.nav) (sym c.store-in-loop-i.ensures.value) c.requires.there

pub run_related-returns-in_err-related-clause-steps : goal.run_related-returns-in_err-related-clause-steps
run_related-returns-in_err-related-clause-steps g t c = λ v T' h R.
    let x = c.args.context.now in
    let T = inner_of (option_map pipe_of c.args.inner.now) in
    let l = c.args.rows.now in
    let at = subst (λ (w : World). navigation_on w.model c.args.nav ≡ Some v) (sym c.store-in-loop-i.ensures.value) h in
    let left = (c.loop-i.invariant.1 v T' h R).1 in
    let next = next-sum (related_charge x.world (readings x.customs) v T) l c.loop-i.i c.index-rows-i.result c.loop-i-test.true c.index-rows-i.is in
    let total = related-least x.world (readings x.customs) v T l in
    let found = c.related_rows.ensures.steps v at in
    let all = related-long x.world _ v c.index-rows-i.result c.store-in-loop-i.ensures.value (c.requires.many v h) in
    omega (arith, left, next, total, found, all)

pub run_related-returns-in_err-related-clause-grown : goal.run_related-returns-in_err-related-clause-grown
run_related-returns-in_err-related-clause-grown g t c = omega (arith, c.related_rows.ensures.grown, c.loop-i.invariant.0)

pub run_related-returns-in_err-run_inner-clause-mean : goal.run_related-returns-in_err-run_inner-clause-mean
run_related-returns-in_err-run_inner-clause-mean g t c = λ v T' h R.
    let x = c.args.context.now in
    let T = inner_of (option_map pipe_of c.args.inner.now) in
    let row = c.index-rows-i.result in
    let at = subst (λ (w : World). navigation_on w.model c.args.nav ≡ Some v) (sym c.store-in-loop-i.ensures.value) h in
    let same = related-same x.world _ v row _ c.store-in-loop-i.ensures.value (c.requires.many v h) (c.in_ok-related.ensures.rows v at) in
    let target = target-is x.world.model _ c.args.nav v _ (c.model.ensures.value ∙ ap (λ (w : World). w.model) c.store.ensures.value) h c.nav_target-target.ensures.value in
    let u = related-turn x v T' T c.args.rows.now c.loop-i.i row c.in_ok-related.related.items _ R c.loop-i-test.true c.index-rows-i.is same target in
    let p = err_from_is_err_and c.from_residual-in_err-run_inner.result c.from_residual-in_err-run_inner.ensures.1 in
    rw (p.1, p.2) (gives-all_err c.in_err-run_inner.field-0.0 _ _ (c.in_err-run_inner.ensures.mean (set_shape v.target) T' u.runs)
    (λ n. next-list_refused (related_mean x.world (readings x.customs) v T) c.args.rows.now c.loop-i.i row _ _ c.loop-i-test.true c.index-rows-i.is (c.loop-i.invariant.1 v T' h R).0 (u.means ∙ n)))

pub run_related-returns-in_err-run_inner-clause-steps : goal.run_related-returns-in_err-run_inner-clause-steps
run_related-returns-in_err-run_inner-clause-steps g t c = λ v T' h R.
    let x = c.args.context.now in
    let T = inner_of (option_map pipe_of c.args.inner.now) in
    let row = c.index-rows-i.result in
    let at = subst (λ (w : World). navigation_on w.model c.args.nav ≡ Some v) (sym c.store-in-loop-i.ensures.value) h in
    let same = related-same x.world _ v row _ c.store-in-loop-i.ensures.value (c.requires.many v h) (c.in_ok-related.ensures.rows v at) in
    let target = target-is x.world.model _ c.args.nav v _ (c.model.ensures.value ∙ ap (λ (w : World). w.model) c.store.ensures.value) h c.nav_target-target.ensures.value in
    let u = related-turn x v T' T c.args.rows.now c.loop-i.i row c.in_ok-related.related.items _ R c.loop-i-test.true c.index-rows-i.is same target in
    let ran = c.run_inner.ensures.steps (set_shape v.target) T' u.runs in
    let left = (c.loop-i.invariant.1 v T' h R).1 in
    let next = u.costs in
    let found = c.related_rows.ensures.steps v at in
    let all = related-long x.world _ v row c.store-in-loop-i.ensures.value (c.requires.many v h) in
    let total = related-least x.world (readings x.customs) v T c.args.rows.now in
    omega (arith, left, next, total, found, all, ran)

pub run_related-returns-in_err-run_inner-clause-grown : goal.run_related-returns-in_err-run_inner-clause-grown
run_related-returns-in_err-run_inner-clause-grown g t c = omega (arith, c.related_rows.ensures.grown, c.run_inner.ensures.grown, c.loop-i.invariant.0)

pub run_related-returns-in_err-push-clause-steps : goal.run_related-returns-in_err-push-clause-steps
run_related-returns-in_err-push-clause-steps g t c = λ v T' h R.
    let x = c.args.context.now in
    let T = inner_of (option_map pipe_of c.args.inner.now) in
    let row = c.index-rows-i.result in
    let at = subst (λ (w : World). navigation_on w.model c.args.nav ≡ Some v) (sym c.store-in-loop-i.ensures.value) h in
    let same = related-same x.world _ v row _ c.store-in-loop-i.ensures.value (c.requires.many v h) (c.in_ok-related.ensures.rows v at) in
    let target = target-is x.world.model _ c.args.nav v _ (c.model.ensures.value ∙ ap (λ (w : World). w.model) c.store.ensures.value) h c.nav_target-target.ensures.value in
    let u = related-turn x v T' T c.args.rows.now c.loop-i.i row c.in_ok-related.related.items _ R c.loop-i-test.true c.index-rows-i.is same target in
    let ran = c.run_inner.ensures.steps (set_shape v.target) T' u.runs in
    let left = (c.loop-i.invariant.1 v T' h R).1 in
    let next = u.costs in
    let found = c.related_rows.ensures.steps v at in
    let all = related-long x.world _ v row c.store-in-loop-i.ensures.value (c.requires.many v h) in
    let total = related-least x.world (readings x.customs) v T c.args.rows.now in
    omega (arith, left, next, total, found, all, ran)

pub run_related-returns-in_err-push-clause-grown : goal.run_related-returns-in_err-push-clause-grown
run_related-returns-in_err-push-clause-grown g t c = omega (arith, c.related_rows.ensures.grown, c.run_inner.ensures.grown, c.loop-i.invariant.0)

pub run_related-loop-i-preserved : goal.run_related-loop-i-preserved
run_related-loop-i-preserved g t c = (
  omega (arith, c.related_rows.ensures.grown, c.run_inner.ensures.grown, c.loop-i.invariant.0),
  λ v T' h R.
      let x = c.args.context.now in
      let T = inner_of (option_map pipe_of c.args.inner.now) in
      let row = c.index-rows-i.result in
      let at = subst (λ (w : World). navigation_on w.model c.args.nav ≡ Some v) (sym c.store-in-loop-i.ensures.value) h in
      let same = related-same x.world _ v row _ c.store-in-loop-i.ensures.value (c.requires.many v h) (c.in_ok-related.ensures.rows v at) in
      let target = target-is x.world.model _ c.args.nav v _ (c.model.ensures.value ∙ ap (λ (w : World). w.model) c.store.ensures.value) h c.nav_target-target.ensures.value in
      let u = related-turn x v T' T c.args.rows.now c.loop-i.i row c.in_ok-related.related.items _ R c.loop-i-test.true c.index-rows-i.is same target in
      let f = related_mean x.world (readings x.customs) v T in
      let made : Vec Instance → List Instance = λ part. part.items in
      let pushed = ap (map made) c.in_ok-push.ensures.items ∙ map-append made c.loop-i.all.items (c.in_ok-run_inner.field-0 ∷ []) in
      let ran = c.run_inner.ensures.steps (set_shape v.target) T' u.runs in
      let left = (c.loop-i.invariant.1 v T' h R).1 in
      let next = u.costs in
      let found = c.related_rows.ensures.steps v at in
      let all = related-long x.world _ v row c.store-in-loop-i.ensures.value (c.requires.many v h) in (
        next-list f c.args.rows.now c.loop-i.i row _ _ c.in_ok-run_inner.field-0.items c.loop-i-test.true c.index-rows-i.is (c.loop-i.invariant.1 v T' h R).0 (u.means ∙ c.in_ok-run_inner.ensures.mean (set_shape v.target) T' u.runs)
            ∙ ap (λ a. option_map (λ rest. a ++ rest) (all_some (map f (drop (c.loop-i.i + 1) c.args.rows.now)))) (sym pushed),
        omega (arith, left, next, found, all, ran),
      ),
)

pub run_related-returns-clause-mean : goal.run_related-returns-clause-mean
run_related-returns-clause-mean g t c = λ v T' h R.
    let x = c.args.context.now in
    let T = inner_of (option_map pipe_of c.args.inner.now) in
    last-list (related_mean x.world (readings x.customs) v T) c.args.rows.now c.loop-i.i _ _ (omega (arith, c.loop-i-test.false)) (c.loop-i.invariant.1 v T' h R).0

pub run_related-returns-clause-steps : goal.run_related-returns-clause-steps
run_related-returns-clause-steps g t c = λ v T' h R.
    let x = c.args.context.now in
    let left = (c.loop-i.invariant.1 v T' h R).1 in
    let total = related-least x.world (readings x.customs) v (inner_of (option_map pipe_of c.args.inner.now)) c.args.rows.now in
    omega (arith, left, total)

pub run_related-returns-clause-grown : goal.run_related-returns-clause-grown
run_related-returns-clause-grown g t c = omega (arith, c.loop-i.invariant.0)

-- ---- an inner pipeline

pub run_inner-returns-in-Some-clause-mean : goal.run_inner-returns-in-Some-clause-mean
run_inner-returns-in-Some-clause-mean g t c = λ S S' R.
    let x = c.args.context.now in
    let l = c.args.rows.items in
    let e = ap (λ o. inner_of (option_map pipe_of o)) c.in-Some.is in
    subst (Gives c.run_alone.result) (sym (inner_mean-SomePipe x.world (readings x.customs) S (λ r. Some r) (pipe_of c.in-Some.pipe) l) ∙ ap (λ T. inner_mean x.world (readings x.customs) S (λ r. Some r) T l) (sym e))
    (c.run_alone.ensures.mean S S' (subst (λ T. InnerRuns x c.args.root.now S S' T l) e R))

pub run_inner-returns-in-Some-clause-steps : goal.run_inner-returns-in-Some-clause-steps
run_inner-returns-in-Some-clause-steps g t c = λ S S' R.
    let x = c.args.context.now in
    let l = c.args.rows.items in
    let e = ap (λ o. inner_of (option_map pipe_of o)) c.in-Some.is in
    let spent = c.run_alone.ensures.steps S S' (subst (λ T. InnerRuns x c.args.root.now S S' T l) e R) in
    let whole = ap (λ T. inner_cost x.world (readings x.customs) S T l) e in
    omega (arith, spent, whole)

pub run_inner-returns-in-Some-clause-grown : goal.run_inner-returns-in-Some-clause-grown
run_inner-returns-in-Some-clause-grown g t c = omega (arith, c.run_alone.ensures.grown)

pub run_inner-returns-in-None-clause-mean : goal.run_inner-returns-in-None-clause-mean
run_inner-returns-in-None-clause-mean g t c = λ S S' R.
    let x = c.args.context.now in
    let l = c.args.rows.items in
    ap (λ o. inner_mean x.world (readings x.customs) S (λ r. Some r) (inner_of (option_map pipe_of o)) l) c.in-None.is ∙ inner_mean-NoPipe x.world (readings x.customs) S (λ r. Some r) l

-- ---- hierarchies: from a transformation to its parts

pub run_step-run_concat-requires-clause-named : goal.run_step-run_concat-requires-clause-named
run_step-run_concat-requires-clause-named g t c κs within = subst (λ s. AreReady c.args.context.now (step_hierarchies s)) (ap step_of c.in-Concat.is ∙ step_of-Concat c.in-Concat.branches) c.requires.named

pub run_inner-run_alone-requires-clause-named : goal.run_inner-run_alone-requires-clause-named
run_inner-run_alone-requires-clause-named g t c κs within = subst (λ o. AreReady c.args.context.now (inner_hierarchies (inner_of (option_map pipe_of o)))) c.in-Some.is c.requires.named

-- ---- a traversal

pub run_step-traverse_rows-requires-clause-of : goal.run_step-traverse_rows-requires-clause-of
run_step-traverse_rows-requires-clause-of g t c κs within =
    let r = c.requires.ready in
    let e = ap step_of c.in-Traverse.is ∙ step_of-Traverse c.in-Traverse.walk in
    let u = traverse-run (subst (λ s. StepRunsFrom c.args.context.now c.args.root.now r.0 r.1 s c.args.rows.items) e r.2) in
    subst (λ l. IsTrue (all_of c.args.context.now.world l)) (sym c.as_slice-in-Traverse.ensures.value) u.rows

pub run_step-traverse_rows-requires-clause-there : goal.run_step-traverse_rows-requires-clause-there
run_step-traverse_rows-requires-clause-there g t c κs within =
    let r = c.requires.ready in
    let e = ap step_of c.in-Traverse.is ∙ step_of-Traverse c.in-Traverse.walk in
    (traverse-run (subst (λ s. StepRunsFrom c.args.context.now c.args.root.now r.0 r.1 s c.args.rows.items) e r.2)).hierarchy

pub run_step-traverse_rows-requires-clause-ready : goal.run_step-traverse_rows-requires-clause-ready
run_step-traverse_rows-requires-clause-ready g t c κs within =
    let e = ap step_of c.in-Traverse.is ∙ step_of-Traverse c.in-Traverse.walk in
    ready-first c.args.context.now (traverse_of c.in-Traverse.walk).hier [] (subst (λ s. AreReady c.args.context.now (step_hierarchies s)) e c.requires.named)

pub run_step-returns-in-Traverse-clause-mean : goal.run_step-returns-in-Traverse-clause-mean
run_step-returns-in-Traverse-clause-mean g t c = λ S S' R.
    let x = c.args.context.now in
    let l = c.args.rows.items in
    let e = ap step_of c.in-Traverse.is ∙ step_of-Traverse c.in-Traverse.walk in
    let u = traverse-run (subst (λ s. StepRunsFrom x c.args.root.now S S' s l) e R) in
    subst (Gives c.traverse_rows.result) (sym (ap (λ s. step_mean x.world (readings x.customs) S s l) e ∙ u.means ∙ ap (traversal x.world (traverse_of c.in-Traverse.walk)) (sym c.as_slice-in-Traverse.ensures.value))) c.traverse_rows.ensures.mean

pub run_step-returns-in-Traverse-clause-steps : goal.run_step-returns-in-Traverse-clause-steps
run_step-returns-in-Traverse-clause-steps g t c = λ S S' R.
    let x = c.args.context.now in
    let l = c.args.rows.items in
    let e = ap step_of c.in-Traverse.is ∙ step_of-Traverse c.in-Traverse.walk in
    let u = traverse-run (subst (λ s. StepRunsFrom x c.args.root.now S S' s l) e R) in
    let spent = c.traverse_rows.ensures.steps in
    let same = ap (λ l. result_length (traversal x.world (traverse_of c.in-Traverse.walk) l)) c.as_slice-in-Traverse.ensures.value in
    let whole = ap (λ s. step_cost x.world (readings x.customs) S s l) e ∙ u.costs in
    omega (arith, spent, same, whole)

pub run_step-returns-in-Traverse-clause-grown : goal.run_step-returns-in-Traverse-clause-grown
run_step-returns-in-Traverse-clause-grown g t c = omega (arith, c.traverse_rows.ensures.grown)

-- ---- a climb

pub run_step-returns-in-Climb-clause-mean : goal.run_step-returns-in-Climb-clause-mean
run_step-returns-in-Climb-clause-mean g t c = λ S S' R.
    let x = c.args.context.now in
    let l = c.args.rows.items in
    let e = ap step_of c.in-Climb.is ∙ step_of-Climb c.in-Climb.climb in
    subst (Gives c.run_climb.result) (sym (ap (λ s. step_mean x.world (readings x.customs) S s l) e)) (c.run_climb.ensures.mean S S' (subst (λ s. StepRunsFrom x c.args.root.now S S' s l) e R))

pub run_step-returns-in-Climb-clause-steps : goal.run_step-returns-in-Climb-clause-steps
run_step-returns-in-Climb-clause-steps g t c = λ S S' R.
    let x = c.args.context.now in
    let l = c.args.rows.items in
    let e = ap step_of c.in-Climb.is ∙ step_of-Climb c.in-Climb.climb in
    let spent = c.run_climb.ensures.steps S S' (subst (λ s. StepRunsFrom x c.args.root.now S S' s l) e R) in
    let whole = ap (λ s. step_cost x.world (readings x.customs) S s l) e in
    omega (arith, spent, whole)

pub run_step-returns-in-Climb-clause-grown : goal.run_step-returns-in-Climb-clause-grown
run_step-returns-in-Climb-clause-grown g t c = omega (arith, c.run_climb.ensures.grown)

pub run_climb-run_pipe-requires-clause-ready : goal.run_climb-run_pipe-requires-clause-ready
run_climb-run_pipe-requires-clause-ready g t c κs within =
    let x = c.args.context.now in
    let r = c.requires.ready in
    let u = climb-of c.args.climb.now r.2 in
    (r.0, u.shape, subst (RunsFrom x c.args.root.now r.0 u.shape (pipe_of c.args.climb.now.inner)) (sym (c.in_ok-copies.ensures.rows ∙ c.as_slice.ensures.value)) u.runs)

pub run_climb-run_pipe-requires-clause-named : goal.run_climb-run_pipe-requires-clause-named
run_climb-run_pipe-requires-clause-named g t c κs within =
    let x = c.args.context.now in
    let k = c.args.climb.now in
    ready-others x (hier_of k.hier) (hierarchies (pipe_of k.inner)) (subst (λ s. AreReady x (step_hierarchies s)) (climb_of-is k) c.requires.named)

pub run_climb-climb_rows-requires-clause-of : goal.run_climb-climb_rows-requires-clause-of
run_climb-climb_rows-requires-clause-of g t c κs within = let r = c.requires.ready in all-fit-of c.args.context.now.world r.0 c.args.rows.items (r.2).runs.fit

pub run_climb-climb_rows-requires-clause-starts : goal.run_climb-climb_rows-requires-clause-starts
run_climb-climb_rows-requires-clause-starts g t c κs within =
    let x = c.args.context.now in
    let k = c.args.climb.now in
    let l = c.args.rows.items in
    let r = c.requires.ready in
    let u = climb-of k r.2 in
    let copied = c.in_ok-copies.ensures.rows ∙ c.as_slice.ensures.value in
    let runs = subst (RunsFrom x c.args.root.now r.0 u.shape (pipe_of k.inner)) (sym copied) u.runs in
    let made = ap (mean x.world (readings x.customs) r.0 (pipe_of k.inner)) (sym copied) ∙ c.in_ok-starts.ensures.mean r.0 u.shape runs in
    subst (λ l. IsTrue (all_of x.world l)) (sym c.as_slice-2.ensures.value) (u.starts c.in_ok-starts.starts.items (subst IsLoaded c.store.ensures.value c.data_is_loaded.ensures.value) made)

pub run_climb-climb_rows-requires-clause-there : goal.run_climb-climb_rows-requires-clause-there
run_climb-climb_rows-requires-clause-there g t c κs within = (climb-of c.args.climb.now c.requires.ready.2).hierarchy

pub run_climb-climb_rows-requires-clause-ready : goal.run_climb-climb_rows-requires-clause-ready
run_climb-climb_rows-requires-clause-ready g t c κs within =
    let x = c.args.context.now in
    let k = c.args.climb.now in
    ready-first x (hier_of k.hier) (hierarchies (pipe_of k.inner)) (subst (λ s. AreReady x (step_hierarchies s)) (climb_of-is k) c.requires.named)

pub run_climb-returns-in_err-copies-clause-steps : goal.run_climb-returns-in_err-copies-clause-steps
run_climb-returns-in_err-copies-clause-steps g t c = λ S S' R.
    let x = c.args.context.now in
    let k = c.args.climb.now in
    let l = c.args.rows.items in
    let u = climb-of k R in
    let copied = c.copy_rows.ensures.steps in
    let long = ap length c.as_slice.ensures.value in
    let least = u.costs in
    let whole = climb-costs x S k l in
    omega (arith, copied, long, least, whole)

pub run_climb-returns-in_err-copies-clause-grown : goal.run_climb-returns-in_err-copies-clause-grown
run_climb-returns-in_err-copies-clause-grown g t c = omega (arith, c.copy_rows.ensures.grown)

pub run_climb-returns-in_err-starts-clause-mean : goal.run_climb-returns-in_err-starts-clause-mean
run_climb-returns-in_err-starts-clause-mean g t c = λ S S' R.
    let x = c.args.context.now in
    let k = c.args.climb.now in
    let l = c.args.rows.items in
    let u = climb-of k R in
    let copied = c.in_ok-copies.ensures.rows ∙ c.as_slice.ensures.value in
    let runs = subst (RunsFrom x c.args.root.now S u.shape (pipe_of k.inner)) (sym copied) u.runs in
    let p = err_from_is_err_and c.from_residual-in_err-starts.result c.from_residual-in_err-starts.ensures.1 in
    rw (p.1, p.2) (gives-err c.in_err-starts.field-0.0 (mean x.world (readings x.customs) S (pipe_of k.inner) c.in_ok-copies.copies.items) (step_mean x.world (readings x.customs) S (climb_of k) l) (c.in_err-starts.ensures.mean S u.shape runs)
    (λ n. climb-means x S k l ∙ u.refused (ap (mean x.world (readings x.customs) S (pipe_of k.inner)) (sym copied) ∙ n)))

pub run_climb-returns-in_err-starts-clause-steps : goal.run_climb-returns-in_err-starts-clause-steps
run_climb-returns-in_err-starts-clause-steps g t c = λ S S' R.
    let x = c.args.context.now in
    let k = c.args.climb.now in
    let l = c.args.rows.items in
    let u = climb-of k R in
    let same = c.in_ok-copies.ensures.rows ∙ c.as_slice.ensures.value in
    let runs = subst (RunsFrom x c.args.root.now S u.shape (pipe_of k.inner)) (sym same) u.runs in
    let copied = c.copy_rows.ensures.steps in
    let long = ap length c.as_slice.ensures.value in
    let ran = c.run_pipe.ensures.steps S u.shape runs in
    let costs = ap (cost x.world (readings x.customs) S (pipe_of k.inner)) same in
    let least = u.costs in
    let whole = climb-costs x S k l in
    omega (arith, copied, long, ran, costs, least, whole)

pub run_climb-returns-in_err-starts-clause-grown : goal.run_climb-returns-in_err-starts-clause-grown
run_climb-returns-in_err-starts-clause-grown g t c = omega (arith, c.copy_rows.ensures.grown, c.run_pipe.ensures.grown)

pub run_climb-returns-clause-mean : goal.run_climb-returns-clause-mean
run_climb-returns-clause-mean g t c = λ S S' R.
    let x = c.args.context.now in
    let k = c.args.climb.now in
    let l = c.args.rows.items in
    let u = climb-of k R in
    let copied = c.in_ok-copies.ensures.rows ∙ c.as_slice.ensures.value in
    let runs = subst (RunsFrom x c.args.root.now S u.shape (pipe_of k.inner)) (sym copied) u.runs in
    let made = ap (mean x.world (readings x.customs) S (pipe_of k.inner)) (sym copied) ∙ c.in_ok-starts.ensures.mean S u.shape runs in
    subst (Gives c.climb_rows.result) (sym (climb-means x S k l ∙ u.means c.in_ok-starts.starts.items made ∙ ap (climb_from x.world k.up (hier_of k.hier) k.path k.distance k.keep l) (sym c.as_slice-2.ensures.value))) c.climb_rows.ensures.mean

pub run_climb-returns-clause-steps : goal.run_climb-returns-clause-steps
run_climb-returns-clause-steps g t c = λ S S' R.
    let x = c.args.context.now in
    let k = c.args.climb.now in
    let l = c.args.rows.items in
    let u = climb-of k R in
    let same = c.in_ok-copies.ensures.rows ∙ c.as_slice.ensures.value in
    let runs = subst (RunsFrom x c.args.root.now S u.shape (pipe_of k.inner)) (sym same) u.runs in
    let copied = c.copy_rows.ensures.steps in
    let long = ap length c.as_slice.ensures.value in
    let ran = c.run_pipe.ensures.steps S u.shape runs in
    let costs = ap (cost x.world (readings x.customs) S (pipe_of k.inner)) same in
    let least = u.costs in
    let whole = climb-costs x S k l in
    omega (arith, copied, long, ran, costs, least, whole)

pub run_climb-returns-clause-grown : goal.run_climb-returns-clause-grown
run_climb-returns-clause-grown g t c = omega (arith, c.copy_rows.ensures.grown, c.run_pipe.ensures.grown)

-- ---- the levels of a grouping

pub grouping_levels-run_shown-requires-clause-there : goal.grouping_levels-run_shown-requires-clause-there
grouping_levels-run_shown-requires-clause-there g t c κs within =
    let x = c.args.context.now in
    let h = hier_of c.in-Recursive.hier in
    let p = c.in-Recursive.path in
    let T = inner_of (option_map pipe_of c.in-Recursive.inner) in
    let has = met-key c.args.keys.now c.as_slice-items.result.now c.loop-key.key-index c.key-item.result c.as_slice-items.ensures.value c.loop-key-test.true c.key-item.is (c.loop-key.invariant).1 (ap key_of c.in-Recursive.is ∙ key_of-Recursive c.in-Recursive.hier p c.in-Recursive.inner) in
    ap is_some (recursive x h p T (keys_of c.args.keys.now) has c.requires.ready).at

pub grouping_levels-run_shown-requires-clause-index : goal.grouping_levels-run_shown-requires-clause-index
grouping_levels-run_shown-requires-clause-index g t c κs within =
    let x = c.args.context.now in
    let h = hier_of c.in-Recursive.hier in
    let p = c.in-Recursive.path in
    let T = inner_of (option_map pipe_of c.in-Recursive.inner) in
    let has = met-key c.args.keys.now c.as_slice-items.result.now c.loop-key.key-index c.key-item.result c.as_slice-items.ensures.value c.loop-key-test.true c.key-item.is (c.loop-key.invariant).1 (ap key_of c.in-Recursive.is ∙ key_of-Recursive c.in-Recursive.hier p c.in-Recursive.inner) in
    ready-first x h (inner_hierarchies T) (ready-key x (tree.Key.Recursive h p T) (keys_of c.args.keys.now) has c.requires.named)

pub grouping_levels-run_shown-requires-clause-ready : goal.grouping_levels-run_shown-requires-clause-ready
grouping_levels-run_shown-requires-clause-ready g t c κs within =
    let x = c.args.context.now in
    let h = hier_of c.in-Recursive.hier in
    let p = c.in-Recursive.path in
    let T = inner_of (option_map pipe_of c.in-Recursive.inner) in
    let has = met-key c.args.keys.now c.as_slice-items.result.now c.loop-key.key-index c.key-item.result c.as_slice-items.ensures.value c.loop-key-test.true c.key-item.is (c.loop-key.invariant).1 (ap key_of c.in-Recursive.is ∙ key_of-Recursive c.in-Recursive.hier p c.in-Recursive.inner) in
    (recursive x h p T (keys_of c.args.keys.now) has c.requires.ready).shown

pub grouping_levels-run_shown-requires-clause-named : goal.grouping_levels-run_shown-requires-clause-named
grouping_levels-run_shown-requires-clause-named g t c κs within =
    let x = c.args.context.now in
    let h = hier_of c.in-Recursive.hier in
    let p = c.in-Recursive.path in
    let T = inner_of (option_map pipe_of c.in-Recursive.inner) in
    let has = met-key c.args.keys.now c.as_slice-items.result.now c.loop-key.key-index c.key-item.result c.as_slice-items.ensures.value c.loop-key-test.true c.key-item.is (c.loop-key.invariant).1 (ap key_of c.in-Recursive.is ∙ key_of-Recursive c.in-Recursive.hier p c.in-Recursive.inner) in
    ready-others x h (inner_hierarchies T) (ready-key x (tree.Key.Recursive h p T) (keys_of c.args.keys.now) has c.requires.named)

pub grouping_levels-node_levels-requires-clause-there : goal.grouping_levels-node_levels-requires-clause-there
grouping_levels-node_levels-requires-clause-there g t c κs within =
    let x = c.args.context.now in
    let h = hier_of c.in-Recursive.hier in
    let p = c.in-Recursive.path in
    let T = inner_of (option_map pipe_of c.in-Recursive.inner) in
    let has = met-key c.args.keys.now c.as_slice-items.result.now c.loop-key.key-index c.key-item.result c.as_slice-items.ensures.value c.loop-key-test.true c.key-item.is (c.loop-key.invariant).1 (ap key_of c.in-Recursive.is ∙ key_of-Recursive c.in-Recursive.hier p c.in-Recursive.inner) in
    ap is_some (recursive x h p T (keys_of c.args.keys.now) has c.requires.ready).at

pub grouping_levels-node_levels-requires-clause-ready : goal.grouping_levels-node_levels-requires-clause-ready
grouping_levels-node_levels-requires-clause-ready g t c κs within =
    let x = c.args.context.now in
    let h = hier_of c.in-Recursive.hier in
    let p = c.in-Recursive.path in
    let T = inner_of (option_map pipe_of c.in-Recursive.inner) in
    let has = met-key c.args.keys.now c.as_slice-items.result.now c.loop-key.key-index c.key-item.result c.as_slice-items.ensures.value c.loop-key-test.true c.key-item.is (c.loop-key.invariant).1 (ap key_of c.in-Recursive.is ∙ key_of-Recursive c.in-Recursive.hier p c.in-Recursive.inner) in
    ready-first x h (inner_hierarchies T) (ready-key x (tree.Key.Recursive h p T) (keys_of c.args.keys.now) has c.requires.named)

pub grouping_levels-node_levels-requires-clause-all : goal.grouping_levels-node_levels-requires-clause-all
grouping_levels-node_levels-requires-clause-all g t c κs within =
    let h = hier_of c.in-Recursive.hier in
    let p = c.in-Recursive.path in
    let T = inner_of (option_map pipe_of c.in-Recursive.inner) in
    let ks = keys_of c.args.keys.now in
    let has = met-key c.args.keys.now c.as_slice-items.result.now c.loop-key.key-index c.key-item.result c.as_slice-items.ensures.value c.loop-key-test.true c.key-item.is (c.loop-key.invariant).1 (ap key_of c.in-Recursive.is ∙ key_of-Recursive c.in-Recursive.hier p c.in-Recursive.inner) in
    c.requires.all ∙ ap (λ part. plain_paths ks ++ rollup_paths part) (recursive-part h p T ks has c.requires.ready.few)

pub grouping_levels-returns-in_err-shown-in-Recursive-clause-levels : goal.grouping_levels-returns-in_err-shown-in-Recursive-clause-levels
grouping_levels-returns-in_err-shown-in-Recursive-clause-levels g t c =
    let x = c.args.context.now in
    let h = hier_of c.in-Recursive.hier in
    let p = c.in-Recursive.path in
    let T = inner_of (option_map pipe_of c.in-Recursive.inner) in
    let has = met-key c.args.keys.now c.as_slice-items.result.now c.loop-key.key-index c.key-item.result c.as_slice-items.ensures.value c.loop-key-test.true c.key-item.is (c.loop-key.invariant).1 (ap key_of c.in-Recursive.is ∙ key_of-Recursive c.in-Recursive.hier p c.in-Recursive.inner) in
    let u = recursive x h p T (keys_of c.args.keys.now) has c.requires.ready in
    let q = err_from_is_err_and c.from_residual.result c.from_residual.ensures.1 in
    rw (q.1, q.2) (shown-gives x h p T (keys_of c.args.keys.now) has c.requires.ready u.place u.at c.in_err-shown-in-Recursive.field-0.0 c.args.rows.now (c.in_err-shown-in-Recursive.ensures.shown u.place u.at))

pub grouping_levels-returns-in_err-shown-in-Recursive-clause-steps : goal.grouping_levels-returns-in_err-shown-in-Recursive-clause-steps
grouping_levels-returns-in_err-shown-in-Recursive-clause-steps g t c =
    let x = c.args.context.now in
    let h = hier_of c.in-Recursive.hier in
    let p = c.in-Recursive.path in
    let T = inner_of (option_map pipe_of c.in-Recursive.inner) in
    let has = met-key c.args.keys.now c.as_slice-items.result.now c.loop-key.key-index c.key-item.result c.as_slice-items.ensures.value c.loop-key-test.true c.key-item.is (c.loop-key.invariant).1 (ap key_of c.in-Recursive.is ∙ key_of-Recursive c.in-Recursive.hier p c.in-Recursive.inner) in
    let u = recursive x h p T (keys_of c.args.keys.now) has c.requires.ready in
    let same = (c.loop-key.invariant).2 in
    let spent = c.run_shown.ensures.steps u.place u.at in
    let least = shown-least x h p T (keys_of c.args.keys.now) u.place has u.at in
    omega (arith, same, spent, least)

pub grouping_levels-returns-in_err-shown-in-Recursive-clause-grown : goal.grouping_levels-returns-in_err-shown-in-Recursive-clause-grown
grouping_levels-returns-in_err-shown-in-Recursive-clause-grown g t c = omega (arith, c.run_shown.ensures.grown, c.loop-key.invariant.2)

pub grouping_levels-returns-in-Recursive-clause-levels : goal.grouping_levels-returns-in-Recursive-clause-levels
grouping_levels-returns-in-Recursive-clause-levels g t c =
    let x = c.args.context.now in
    let h = hier_of c.in-Recursive.hier in
    let p = c.in-Recursive.path in
    let T = inner_of (option_map pipe_of c.in-Recursive.inner) in
    let has = met-key c.args.keys.now c.as_slice-items.result.now c.loop-key.key-index c.key-item.result c.as_slice-items.ensures.value c.loop-key-test.true c.key-item.is (c.loop-key.invariant).1 (ap key_of c.in-Recursive.is ∙ key_of-Recursive c.in-Recursive.hier p c.in-Recursive.inner) in
    let u = recursive x h p T (keys_of c.args.keys.now) has c.requires.ready in
    node-gives x h p T (keys_of c.args.keys.now) has c.requires.ready u.place u.at c.node_levels.result c.as_slice-shown.result.now c.args.rows.now
    (c.in_ok-shown-in-Recursive.ensures.shown u.place u.at ∙ ap Some (sym c.as_slice-shown.ensures.value)) (c.node_levels.ensures.levels u.place u.at)

pub grouping_levels-returns-in-Recursive-clause-steps : goal.grouping_levels-returns-in-Recursive-clause-steps
grouping_levels-returns-in-Recursive-clause-steps g t c =
    let x = c.args.context.now in
    let h = hier_of c.in-Recursive.hier in
    let p = c.in-Recursive.path in
    let T = inner_of (option_map pipe_of c.in-Recursive.inner) in
    let has = met-key c.args.keys.now c.as_slice-items.result.now c.loop-key.key-index c.key-item.result c.as_slice-items.ensures.value c.loop-key-test.true c.key-item.is (c.loop-key.invariant).1 (ap key_of c.in-Recursive.is ∙ key_of-Recursive c.in-Recursive.hier p c.in-Recursive.inner) in
    let u = recursive x h p T (keys_of c.args.keys.now) has c.requires.ready in
    let same = (c.loop-key.invariant).2 in
    let spent = c.run_shown.ensures.steps u.place u.at in
    let least = shown-least x h p T (keys_of c.args.keys.now) u.place has u.at in
    omega (arith, same, spent, least)

pub grouping_levels-returns-in-Recursive-clause-grown : goal.grouping_levels-returns-in-Recursive-clause-grown
grouping_levels-returns-in-Recursive-clause-grown g t c = omega (arith, c.run_shown.ensures.grown, c.loop-key.invariant.2)

pub grouping_levels-loop-key-preserved : goal.grouping_levels-loop-key-preserved
grouping_levels-loop-key-preserved g t c =
    let ks = c.as_slice-items.result.now in
    let i = c.loop-key.key-index in
    let d = c.key-item.result in
    let flat : is_flat_key (key_of d) ≡ true = elim c.match-key.branch [
      | grouping_levels-in-Plain w ↦ ap is_flat_key (ap key_of w.in-Plain.is ∙ key_of-Plain _)
      | grouping_levels-in-Rollup w ↦ ap is_flat_key (ap key_of w.in-Rollup.is ∙ key_of-Rollup _ _)
    ] in (
      c.loop-key.invariant.0 ∙ next-flat_key ks i d c.loop-key-test.true c.key-item.is flat,
      λ k h. c.loop-key.invariant.1 k (next-among k ks i d c.loop-key-test.true c.key-item.is h),
      c.loop-key.invariant.2,
    )

pub grouping_levels-levels_of-requires-clause-all : goal.grouping_levels-levels_of-requires-clause-all
grouping_levels-levels_of-requires-clause-all g t c κs within = c.requires.all

pub grouping_levels-levels_of-requires-clause-flat : goal.grouping_levels-levels_of-requires-clause-flat
grouping_levels-levels_of-requires-clause-flat g t c κs within = all-flat c.args.keys.now c.as_slice-items.result.now c.loop-key.key-index c.as_slice-items.ensures.value (omega (arith, c.loop-key-test.false)) (c.loop-key.invariant).0

pub grouping_levels-returns-clause-levels : goal.grouping_levels-returns-clause-levels
grouping_levels-returns-clause-levels g t c =
    let x = c.args.context.now in
    let flat = all-flat c.args.keys.now c.as_slice-items.result.now c.loop-key.key-index c.as_slice-items.ensures.value (omega (arith, c.loop-key-test.false)) (c.loop-key.invariant).0 in
    flat-gives c.levels_of.result x.world (readings x.customs) (keys_of c.args.keys.now) c.args.rows.now flat c.levels_of.ensures.levels

-- ---- a recursive rollup with an aggregation alone

pub run_totals-run_shown-requires-clause-there : goal.run_totals-run_shown-requires-clause-there
run_totals-run_shown-requires-clause-there g t c κs within =
    let x = c.args.context.now in
    let h = hier_of c.args.totals.now.hier.now in
    let p = c.args.totals.now.path.now in
    let T = inner_of (option_map pipe_of c.args.shown.now) in
    let items = map agg_of c.args.totals.now.items.now in
    let r = c.requires.ready in
    let u = found-key x h p T items c.args.root.now r.0 r.1 c.args.rows.now r.2 in
    ap is_some u.at

pub run_totals-run_shown-requires-clause-index : goal.run_totals-run_shown-requires-clause-index
run_totals-run_shown-requires-clause-index g t c κs within =
    let x = c.args.context.now in
    let h = hier_of c.args.totals.now.hier.now in
    let p = c.args.totals.now.path.now in
    let T = inner_of (option_map pipe_of c.args.shown.now) in
    let items = map agg_of c.args.totals.now.items.now in
    hier-ready x h p T items c.requires.named

pub run_totals-run_shown-requires-clause-ready : goal.run_totals-run_shown-requires-clause-ready
run_totals-run_shown-requires-clause-ready g t c κs within =
    let x = c.args.context.now in
    let h = hier_of c.args.totals.now.hier.now in
    let p = c.args.totals.now.path.now in
    let T = inner_of (option_map pipe_of c.args.shown.now) in
    let items = map agg_of c.args.totals.now.items.now in
    let r = c.requires.ready in
    let u = found-key x h p T items c.args.root.now r.0 r.1 c.args.rows.now r.2 in
    u.shown

pub run_totals-run_shown-requires-clause-named : goal.run_totals-run_shown-requires-clause-named
run_totals-run_shown-requires-clause-named g t c κs within =
    let x = c.args.context.now in
    let h = hier_of c.args.totals.now.hier.now in
    let p = c.args.totals.now.path.now in
    let T = inner_of (option_map pipe_of c.args.shown.now) in
    let items = map agg_of c.args.totals.now.items.now in
    (key-named x h p T items c.requires.named).0

pub run_totals-returns-in_err-shown-clause-mean : goal.run_totals-returns-in_err-shown-clause-mean
run_totals-returns-in_err-shown-clause-mean g t c = λ S S' R.
    let x = c.args.context.now in
    let h = hier_of c.args.totals.now.hier.now in
    let p = c.args.totals.now.path.now in
    let T = inner_of (option_map pipe_of c.args.shown.now) in
    let items = map agg_of c.args.totals.now.items.now in
    let u = found-key x h p T items c.args.root.now S S' c.args.rows.now R in
    let q = err_from_is_err_and c.from_residual.result c.from_residual.ensures.1 in
    rw (q.1, q.2) (totals-err x h p T items c.args.root.now S S' c.args.rows.now R u.place u.at c.in_err-shown.field-0.0 (c.in_err-shown.ensures.shown u.place u.at))

pub run_totals-returns-in_err-shown-clause-steps : goal.run_totals-returns-in_err-shown-clause-steps
run_totals-returns-in_err-shown-clause-steps g t c = λ S S' R.
    let x = c.args.context.now in
    let h = hier_of c.args.totals.now.hier.now in
    let p = c.args.totals.now.path.now in
    let T = inner_of (option_map pipe_of c.args.shown.now) in
    let items = map agg_of c.args.totals.now.items.now in
    let u = found-key x h p T items c.args.root.now S S' c.args.rows.now R in
    let spent = c.run_shown.ensures.steps u.place u.at in
    let least = totals-least x h p T items c.args.root.now S S' c.args.rows.now R u.place u.at in
    omega (arith, spent, least)

pub run_totals-returns-in_err-shown-clause-grown : goal.run_totals-returns-in_err-shown-clause-grown
run_totals-returns-in_err-shown-clause-grown g t c = omega (arith, c.run_shown.ensures.grown)

pub run_totals-total_rows-requires-clause-of : goal.run_totals-total_rows-requires-clause-of
run_totals-total_rows-requires-clause-of g t c κs within =
    let r = c.requires.ready in
    all-fit-of c.args.context.now.world r.0 c.args.rows.now (r.2).runs.fit

pub run_totals-total_rows-requires-clause-there : goal.run_totals-total_rows-requires-clause-there
run_totals-total_rows-requires-clause-there g t c κs within =
    let x = c.args.context.now in
    let h = hier_of c.args.totals.now.hier.now in
    let p = c.args.totals.now.path.now in
    let T = inner_of (option_map pipe_of c.args.shown.now) in
    let items = map agg_of c.args.totals.now.items.now in
    let r = c.requires.ready in
    let u = found-key x h p T items c.args.root.now r.0 r.1 c.args.rows.now r.2 in
    ap is_some u.at

pub run_totals-total_rows-requires-clause-index : goal.run_totals-total_rows-requires-clause-index
run_totals-total_rows-requires-clause-index g t c κs within =
    let x = c.args.context.now in
    let h = hier_of c.args.totals.now.hier.now in
    let p = c.args.totals.now.path.now in
    let T = inner_of (option_map pipe_of c.args.shown.now) in
    let items = map agg_of c.args.totals.now.items.now in
    hier-ready x h p T items c.requires.named

pub run_totals-total_rows-requires-clause-shown : goal.run_totals-total_rows-requires-clause-shown
run_totals-total_rows-requires-clause-shown g t c κs within = λ f at. subst (AreNodesBelow (count c.args.context.now.world f.set)) (sym c.as_slice.ensures.value) (c.in_ok-shown.ensures.within f at)

pub run_totals-total_rows-requires-clause-ready : goal.run_totals-total_rows-requires-clause-ready
run_totals-total_rows-requires-clause-ready g t c κs within =
    let x = c.args.context.now in
    let h = hier_of c.args.totals.now.hier.now in
    let p = c.args.totals.now.path.now in
    let T = inner_of (option_map pipe_of c.args.shown.now) in
    let items = map agg_of c.args.totals.now.items.now in
    let r = c.requires.ready in
    totals-ready x c.args.root.now r.0 r.1 h p T items c.args.rows.now (subst IsLoaded c.store.ensures.value c.data_is_loaded.ensures.value) r.2

pub run_totals-returns-clause-mean : goal.run_totals-returns-clause-mean
run_totals-returns-clause-mean g t c = λ S S' R.
    let x = c.args.context.now in
    let h = hier_of c.args.totals.now.hier.now in
    let p = c.args.totals.now.path.now in
    let T = inner_of (option_map pipe_of c.args.shown.now) in
    let items = map agg_of c.args.totals.now.items.now in
    let u = found-key x h p T items c.args.root.now S S' c.args.rows.now R in
    totals-gives x h p T items c.args.root.now S S' c.args.rows.now R u.place u.at c.as_slice.result.now (c.in_ok-shown.ensures.shown u.place u.at ∙ ap Some (sym c.as_slice.ensures.value)) c.total_rows.result (c.total_rows.ensures.rows u.place S u.at R.root_is)

pub run_totals-returns-clause-steps : goal.run_totals-returns-clause-steps
run_totals-returns-clause-steps g t c = λ S S' R.
    let x = c.args.context.now in
    let h = hier_of c.args.totals.now.hier.now in
    let p = c.args.totals.now.path.now in
    let T = inner_of (option_map pipe_of c.args.shown.now) in
    let items = map agg_of c.args.totals.now.items.now in
    let u = found-key x h p T items c.args.root.now S S' c.args.rows.now R in
    let chosen = c.run_shown.ensures.steps u.place u.at in
    let made = c.total_rows.ensures.steps u.place S u.at R.root_is in
    let least = totals-spent x h p T items c.args.root.now S S' c.args.rows.now R u.place u.at c.as_slice.result.now (c.in_ok-shown.ensures.shown u.place u.at ∙ ap Some (sym c.as_slice.ensures.value)) in
    omega (arith, chosen, made, least)

pub run_totals-returns-clause-grown : goal.run_totals-returns-clause-grown
run_totals-returns-clause-grown g t c = omega (arith, c.run_shown.ensures.grown, c.total_rows.ensures.grown)

-- ---- a recursive rollup with plain keys and an aggregation alone

pub run_keyed_totals-run_shown-requires-clause-there : goal.run_keyed_totals-run_shown-requires-clause-there
run_keyed_totals-run_shown-requires-clause-there g t c κs within =
    let x = c.args.context.now in
    let h = hier_of c.args.hier.now in
    let p = c.args.path.now in
    let T = inner_of (option_map pipe_of c.args.shown.now) in
    let ks = keys_of c.args.keyed.now.keys.now in
    let items = map agg_of c.args.keyed.now.items.now in
    let r = c.requires.ready in
    let u = keyed-found x h p T ks items c.requires.key c.args.root.now r.0 r.1 c.args.rows.now r.2 in
    ap is_some u.at

pub run_keyed_totals-run_shown-requires-clause-index : goal.run_keyed_totals-run_shown-requires-clause-index
run_keyed_totals-run_shown-requires-clause-index g t c κs within =
    let x = c.args.context.now in
    let h = hier_of c.args.hier.now in
    let p = c.args.path.now in
    let T = inner_of (option_map pipe_of c.args.shown.now) in
    let ks = keys_of c.args.keyed.now.keys.now in
    let items = map agg_of c.args.keyed.now.items.now in
    keyed-hier x h p T ks items c.requires.key c.requires.named

pub run_keyed_totals-keyed_rows-requires-clause-there : goal.run_keyed_totals-keyed_rows-requires-clause-there
run_keyed_totals-keyed_rows-requires-clause-there g t c κs within =
    let x = c.args.context.now in
    let h = hier_of c.args.hier.now in
    let p = c.args.path.now in
    let T = inner_of (option_map pipe_of c.args.shown.now) in
    let ks = keys_of c.args.keyed.now.keys.now in
    let items = map agg_of c.args.keyed.now.items.now in
    let r = c.requires.ready in
    let u = keyed-found x h p T ks items c.requires.key c.args.root.now r.0 r.1 c.args.rows.now r.2 in
    ap is_some u.at

pub run_keyed_totals-keyed_rows-requires-clause-index : goal.run_keyed_totals-keyed_rows-requires-clause-index
run_keyed_totals-keyed_rows-requires-clause-index g t c κs within =
    let x = c.args.context.now in
    let h = hier_of c.args.hier.now in
    let p = c.args.path.now in
    let T = inner_of (option_map pipe_of c.args.shown.now) in
    let ks = keys_of c.args.keyed.now.keys.now in
    let items = map agg_of c.args.keyed.now.items.now in
    keyed-hier x h p T ks items c.requires.key c.requires.named

pub run_keyed_totals-run_shown-requires-clause-ready : goal.run_keyed_totals-run_shown-requires-clause-ready
run_keyed_totals-run_shown-requires-clause-ready g t c κs within =
    let x = c.args.context.now in
    let h = hier_of c.args.hier.now in
    let p = c.args.path.now in
    let T = inner_of (option_map pipe_of c.args.shown.now) in
    let ks = keys_of c.args.keyed.now.keys.now in
    let items = map agg_of c.args.keyed.now.items.now in
    let r = c.requires.ready in
    let u = keyed-found x h p T ks items c.requires.key c.args.root.now r.0 r.1 c.args.rows.now r.2 in
    u.shown

pub run_keyed_totals-run_shown-requires-clause-named : goal.run_keyed_totals-run_shown-requires-clause-named
run_keyed_totals-run_shown-requires-clause-named g t c κs within =
    let x = c.args.context.now in
    let h = hier_of c.args.hier.now in
    let p = c.args.path.now in
    let T = inner_of (option_map pipe_of c.args.shown.now) in
    let ks = keys_of c.args.keyed.now.keys.now in
    let items = map agg_of c.args.keyed.now.items.now in
    keyed-named x h p T ks items c.requires.key c.requires.named

pub run_keyed_totals-returns-in_err-shown-clause-mean : goal.run_keyed_totals-returns-in_err-shown-clause-mean
run_keyed_totals-returns-in_err-shown-clause-mean g t c = λ S S' R.
    let x = c.args.context.now in
    let h = hier_of c.args.hier.now in
    let p = c.args.path.now in
    let T = inner_of (option_map pipe_of c.args.shown.now) in
    let ks = keys_of c.args.keyed.now.keys.now in
    let items = map agg_of c.args.keyed.now.items.now in
    let u = keyed-found x h p T ks items c.requires.key c.args.root.now S S' c.args.rows.now R in
    let q = err_from_is_err_and c.from_residual.result c.from_residual.ensures.1 in
    rw (q.1, q.2) (keyed-err x h p T ks items c.requires.key c.args.root.now S S' c.args.rows.now R u.place u.at c.in_err-shown.field-0.0 (c.in_err-shown.ensures.shown u.place u.at))

pub run_keyed_totals-returns-in_err-shown-clause-steps : goal.run_keyed_totals-returns-in_err-shown-clause-steps
run_keyed_totals-returns-in_err-shown-clause-steps g t c = λ S S' R.
    let x = c.args.context.now in
    let h = hier_of c.args.hier.now in
    let p = c.args.path.now in
    let T = inner_of (option_map pipe_of c.args.shown.now) in
    let ks = keys_of c.args.keyed.now.keys.now in
    let items = map agg_of c.args.keyed.now.items.now in
    let u = keyed-found x h p T ks items c.requires.key c.args.root.now S S' c.args.rows.now R in
    let spent = c.run_shown.ensures.steps u.place u.at in
    let least = keyed-least x h p T ks items c.requires.key c.args.root.now S S' c.args.rows.now R u.place u.at in
    omega (arith, spent, least)

pub run_keyed_totals-returns-in_err-shown-clause-grown : goal.run_keyed_totals-returns-in_err-shown-clause-grown
run_keyed_totals-returns-in_err-shown-clause-grown g t c = omega (arith, c.run_shown.ensures.grown)

pub run_keyed_totals-keyed_rows-requires-clause-of : goal.run_keyed_totals-keyed_rows-requires-clause-of
run_keyed_totals-keyed_rows-requires-clause-of g t c κs within =
    let r = c.requires.ready in
    all-fit-of c.args.context.now.world r.0 c.args.rows.now (r.2).runs.fit

pub run_keyed_totals-keyed_rows-requires-clause-shown : goal.run_keyed_totals-keyed_rows-requires-clause-shown
run_keyed_totals-keyed_rows-requires-clause-shown g t c κs within = λ f at. subst (AreNodesBelow (count c.args.context.now.world f.set)) (sym c.as_slice.ensures.value) (c.in_ok-shown.ensures.within f at)

pub run_keyed_totals-keyed_rows-requires-clause-paths : goal.run_keyed_totals-keyed_rows-requires-clause-paths
run_keyed_totals-keyed_rows-requires-clause-paths g t c κs within =
    let x = c.args.context.now in
    let h = hier_of c.args.hier.now in
    let p = c.args.path.now in
    let T = inner_of (option_map pipe_of c.args.shown.now) in
    let ks = keys_of c.args.keyed.now.keys.now in
    let items = map agg_of c.args.keyed.now.items.now in
    let r = c.requires.ready in
    keyed-paths x h p T ks items c.requires.key c.args.root.now r.0 r.1 c.args.rows.now r.2

pub run_keyed_totals-keyed_rows-requires-clause-numbered : goal.run_keyed_totals-keyed_rows-requires-clause-numbered
run_keyed_totals-keyed_rows-requires-clause-numbered g t c κs within = c.requires.keyed.numbered

pub run_keyed_totals-keyed_rows-requires-clause-ready : goal.run_keyed_totals-keyed_rows-requires-clause-ready
run_keyed_totals-keyed_rows-requires-clause-ready g t c κs within =
    let x = c.args.context.now in
    let h = hier_of c.args.hier.now in
    let p = c.args.path.now in
    let T = inner_of (option_map pipe_of c.args.shown.now) in
    let ks = keys_of c.args.keyed.now.keys.now in
    let items = map agg_of c.args.keyed.now.items.now in
    let r = c.requires.ready in
    keyed-readied x h p T ks items c.requires.key c.args.root.now r.0 r.1 c.args.rows.now r.2 (subst IsLoaded c.store.ensures.value c.data_is_loaded.ensures.value)

pub run_keyed_totals-returns-clause-mean : goal.run_keyed_totals-returns-clause-mean
run_keyed_totals-returns-clause-mean g t c = λ S S' R.
    let x = c.args.context.now in
    let h = hier_of c.args.hier.now in
    let p = c.args.path.now in
    let T = inner_of (option_map pipe_of c.args.shown.now) in
    let ks = keys_of c.args.keyed.now.keys.now in
    let items = map agg_of c.args.keyed.now.items.now in
    let u = keyed-found x h p T ks items c.requires.key c.args.root.now S S' c.args.rows.now R in
    keyed-gives x h p T ks items c.requires.key c.args.root.now S S' c.args.rows.now R u.place u.at c.as_slice.result.now (c.in_ok-shown.ensures.shown u.place u.at ∙ ap Some (sym c.as_slice.ensures.value)) c.keyed_rows.result (c.keyed_rows.ensures.rows u.place S u.at R.root_is)

pub run_keyed_totals-returns-clause-steps : goal.run_keyed_totals-returns-clause-steps
run_keyed_totals-returns-clause-steps g t c = λ S S' R.
    let x = c.args.context.now in
    let h = hier_of c.args.hier.now in
    let p = c.args.path.now in
    let T = inner_of (option_map pipe_of c.args.shown.now) in
    let ks = keys_of c.args.keyed.now.keys.now in
    let items = map agg_of c.args.keyed.now.items.now in
    let u = keyed-found x h p T ks items c.requires.key c.args.root.now S S' c.args.rows.now R in
    let chosen = c.run_shown.ensures.steps u.place u.at in
    let made = c.keyed_rows.ensures.steps u.place S u.at R.root_is in
    let least = keyed-spent x h p T ks items c.requires.key c.args.root.now S S' c.args.rows.now R u.place u.at c.as_slice.result.now (c.in_ok-shown.ensures.shown u.place u.at ∙ ap Some (sym c.as_slice.ensures.value)) in
    omega (arith, chosen, made, least)

pub run_keyed_totals-returns-clause-grown : goal.run_keyed_totals-returns-clause-grown
run_keyed_totals-returns-clause-grown g t c = omega (arith, c.run_shown.ensures.grown, c.keyed_rows.ensures.grown)

pub run_keyed-keyed_fits-requires-clause-there : goal.run_keyed-keyed_fits-requires-clause-there
run_keyed-keyed_fits-requires-clause-there g t c κs within =
    let x = c.args.context.now in
    let h = hier_of c.in-Recursive.hier in
    let p = c.in-Recursive.path in
    let T = inner_of (option_map pipe_of c.in-Recursive.shown) in
    let ks = keys_of c.args.keyed.now.keys.now in
    let items = map agg_of c.args.keyed.now.items.now in
    let e = c.requires.keyed.step_is in
    let own = same-keys (keys_of c.in-GroupBy.keys) ks (inner_of (option_map pipe_of c.in-GroupBy.field-1)) (tree.OptPipe.SomePipe (Pipe.Then (tree.Step.Aggregate items) Pipe.End)) (sym (ap step_of c.in-GroupBy.is ∙ step_of-GroupBy c.in-GroupBy.keys c.in-GroupBy.field-1) ∙ e) in
    let has = subst (HasKey (tree.Key.Recursive h p T)) own (met-key c.in-GroupBy.keys c.as_slice-items.result.now c.loop-key.key-index c.key-item.result c.as_slice-items.ensures.value c.loop-key-test.true c.key-item.is (c.loop-key.invariant).0 (ap key_of c.in-Recursive.is ∙ key_of-Recursive c.in-Recursive.hier p c.in-Recursive.shown)) in
    let r = c.requires.ready in
    let R = step-runs-on e refl r.2 in
    let u = keyed-found x h p T ks items has c.args.root.now r.0 r.1 c.args.rows.now R in
    ap is_some u.at

pub run_keyed-keyed_fits-requires-clause-index : goal.run_keyed-keyed_fits-requires-clause-index
run_keyed-keyed_fits-requires-clause-index g t c κs within =
    let x = c.args.context.now in
    let h = hier_of c.in-Recursive.hier in
    let p = c.in-Recursive.path in
    let T = inner_of (option_map pipe_of c.in-Recursive.shown) in
    let ks = keys_of c.args.keyed.now.keys.now in
    let items = map agg_of c.args.keyed.now.items.now in
    let e = c.requires.keyed.step_is in
    let own = same-keys (keys_of c.in-GroupBy.keys) ks (inner_of (option_map pipe_of c.in-GroupBy.field-1)) (tree.OptPipe.SomePipe (Pipe.Then (tree.Step.Aggregate items) Pipe.End)) (sym (ap step_of c.in-GroupBy.is ∙ step_of-GroupBy c.in-GroupBy.keys c.in-GroupBy.field-1) ∙ e) in
    let has = subst (HasKey (tree.Key.Recursive h p T)) own (met-key c.in-GroupBy.keys c.as_slice-items.result.now c.loop-key.key-index c.key-item.result c.as_slice-items.ensures.value c.loop-key-test.true c.key-item.is (c.loop-key.invariant).0 (ap key_of c.in-Recursive.is ∙ key_of-Recursive c.in-Recursive.hier p c.in-Recursive.shown)) in
    keyed-hier x h p T ks items has (subst (λ s. AreReady x (step_hierarchies s)) e c.requires.named)

pub run_keyed-run_keyed_totals-requires-clause-key : goal.run_keyed-run_keyed_totals-requires-clause-key
run_keyed-run_keyed_totals-requires-clause-key g t c κs within =
    let x = c.args.context.now in
    let h = hier_of c.in-Recursive.hier in
    let p = c.in-Recursive.path in
    let T = inner_of (option_map pipe_of c.in-Recursive.shown) in
    let ks = keys_of c.args.keyed.now.keys.now in
    let items = map agg_of c.args.keyed.now.items.now in
    let e = c.requires.keyed.step_is in
    let own = same-keys (keys_of c.in-GroupBy.keys) ks (inner_of (option_map pipe_of c.in-GroupBy.field-1)) (tree.OptPipe.SomePipe (Pipe.Then (tree.Step.Aggregate items) Pipe.End)) (sym (ap step_of c.in-GroupBy.is ∙ step_of-GroupBy c.in-GroupBy.keys c.in-GroupBy.field-1) ∙ e) in
    let has = subst (HasKey (tree.Key.Recursive h p T)) own (met-key c.in-GroupBy.keys c.as_slice-items.result.now c.loop-key.key-index c.key-item.result c.as_slice-items.ensures.value c.loop-key-test.true c.key-item.is (c.loop-key.invariant).0 (ap key_of c.in-Recursive.is ∙ key_of-Recursive c.in-Recursive.hier p c.in-Recursive.shown)) in
    has

pub run_keyed-run_keyed_totals-requires-clause-ready : goal.run_keyed-run_keyed_totals-requires-clause-ready
run_keyed-run_keyed_totals-requires-clause-ready g t c κs within =
    let x = c.args.context.now in
    let h = hier_of c.in-Recursive.hier in
    let p = c.in-Recursive.path in
    let T = inner_of (option_map pipe_of c.in-Recursive.shown) in
    let ks = keys_of c.args.keyed.now.keys.now in
    let items = map agg_of c.args.keyed.now.items.now in
    let e = c.requires.keyed.step_is in
    let own = same-keys (keys_of c.in-GroupBy.keys) ks (inner_of (option_map pipe_of c.in-GroupBy.field-1)) (tree.OptPipe.SomePipe (Pipe.Then (tree.Step.Aggregate items) Pipe.End)) (sym (ap step_of c.in-GroupBy.is ∙ step_of-GroupBy c.in-GroupBy.keys c.in-GroupBy.field-1) ∙ e) in
    let has = subst (HasKey (tree.Key.Recursive h p T)) own (met-key c.in-GroupBy.keys c.as_slice-items.result.now c.loop-key.key-index c.key-item.result c.as_slice-items.ensures.value c.loop-key-test.true c.key-item.is (c.loop-key.invariant).0 (ap key_of c.in-Recursive.is ∙ key_of-Recursive c.in-Recursive.hier p c.in-Recursive.shown)) in
    let r = c.requires.ready in
    let R = step-runs-on e refl r.2 in
    (r.0, r.1, R)

pub run_keyed-run_keyed_totals-requires-clause-named : goal.run_keyed-run_keyed_totals-requires-clause-named
run_keyed-run_keyed_totals-requires-clause-named g t c κs within =
    subst (λ s. AreReady c.args.context.now (step_hierarchies s)) c.requires.keyed.step_is c.requires.named

pub run_keyed-run_keyed_totals-requires-clause-keyed : goal.run_keyed-run_keyed_totals-requires-clause-keyed
run_keyed-run_keyed_totals-requires-clause-keyed g t c κs within =
    record { step_is = refl; numbered = c.requires.keyed.numbered }

pub run_keyed-returns-then-keyed_fits-clause-mean : goal.run_keyed-returns-then-keyed_fits-clause-mean
run_keyed-returns-then-keyed_fits-clause-mean g t c = λ S S' R.
    let e = c.requires.keyed.step_is in
    subst (Gives c.run_keyed_totals.result) (sym (step-mean-on c.args.context.now S {l = c.args.rows.now} e refl)) (c.run_keyed_totals.ensures.mean S S' (step-runs-on e refl R))

pub run_keyed-returns-then-keyed_fits-clause-steps : goal.run_keyed-returns-then-keyed_fits-clause-steps
run_keyed-returns-then-keyed_fits-clause-steps g t c = λ S S' R.
    let e = c.requires.keyed.step_is in
    let same = (c.loop-key.invariant).1 in
    let spent = c.run_keyed_totals.ensures.steps S S' (step-runs-on e refl R) in
    let whole = step-cost-on c.args.context.now S {l = c.args.rows.now} e refl in
    omega (arith, same, spent, whole)

pub run_keyed-loop-key-preserved : goal.run_keyed-loop-key-preserved
run_keyed-loop-key-preserved g t c = (
  λ k h. c.loop-key.invariant.0 k (next-among k c.as_slice-items.result.now c.loop-key.key-index c.key-item.result c.loop-key-test.true c.key-item.is h),
  c.loop-key.invariant.1,
)

pub run_keyed-returns-after-loop-key-clause-steps : goal.run_keyed-returns-after-loop-key-clause-steps
run_keyed-returns-after-loop-key-clause-steps g t c = λ S S' R.
    let same = (c.loop-key.invariant).1 in
    let spent = c.run_by_levels.ensures.steps S S' R in
    omega (arith, same, spent)

-- ---- either way

pub run_grouping-keyed_groups-requires-clause-of : goal.run_grouping-keyed_groups-requires-clause-of
run_grouping-keyed_groups-requires-clause-of g t c κs within =
    let r = c.requires.ready in
    all-fit-of c.args.context.now.world r.0 c.args.rows.now (r.2).runs.fit

pub run_grouping-returns-in_err-keyed-clause-mean : goal.run_grouping-returns-in_err-keyed-clause-mean
run_grouping-returns-in_err-keyed-clause-mean g t c = λ S S' R.
    let q = err_from_is_err_and c.from_residual.result c.from_residual.ensures.1 in
    rw (q.1, q.2) (groups-refused c.args.context.now (step_of c.args.step.now) c.args.rows.now c.in_err-keyed.field-0.0 c.in_err-keyed.ensures.found S)

pub run_grouping-run_totals-requires-clause-ready : goal.run_grouping-run_totals-requires-clause-ready
run_grouping-run_totals-requires-clause-ready g t c κs within =
    let r = c.requires.ready in
    let k = c.in-Some.totals in
    let same = shown-same c.args.step.now c.in-GroupBy.keys c.in-GroupBy.field-1 c.index-items-0.result c.in-Recursive.field-0 c.in-Recursive.field-1 c.in-Recursive.shown (hier_of k.hier.now) k.path.now (inner_of (option_map pipe_of k.shown.now)) (map agg_of k.items.now)
    (ap step_of c.in-GroupBy.is ∙ step_of-GroupBy c.in-GroupBy.keys c.in-GroupBy.field-1) c.in-Some.ensures.step
    (ap (λ ks. slice_get ks 0) (sym c.as_slice-items.ensures.value) ∙ slice-at c.as_slice-items.result.now 0 c.index-items-0.result (omega (arith, c.if-items-eq0.false)) c.index-items-0.is)
    (ap key_of c.in-Recursive.is ∙ key_of-Recursive c.in-Recursive.field-0 c.in-Recursive.field-1 c.in-Recursive.shown) in
    let e = c.in-Some.ensures.step ∙ ap (λ o. totals_step (hier_of k.hier.now) k.path.now o (map agg_of k.items.now)) (sym same) in
    (r.0, r.1, subst (λ s. StepRunsFrom c.args.context.now c.args.root.now r.0 r.1 s c.args.rows.now) e r.2)

pub run_grouping-run_totals-requires-clause-named : goal.run_grouping-run_totals-requires-clause-named
run_grouping-run_totals-requires-clause-named g t c κs within =
    let k = c.in-Some.totals in
    let same = shown-same c.args.step.now c.in-GroupBy.keys c.in-GroupBy.field-1 c.index-items-0.result c.in-Recursive.field-0 c.in-Recursive.field-1 c.in-Recursive.shown (hier_of k.hier.now) k.path.now (inner_of (option_map pipe_of k.shown.now)) (map agg_of k.items.now)
    (ap step_of c.in-GroupBy.is ∙ step_of-GroupBy c.in-GroupBy.keys c.in-GroupBy.field-1) c.in-Some.ensures.step
    (ap (λ ks. slice_get ks 0) (sym c.as_slice-items.ensures.value) ∙ slice-at c.as_slice-items.result.now 0 c.index-items-0.result (omega (arith, c.if-items-eq0.false)) c.index-items-0.is)
    (ap key_of c.in-Recursive.is ∙ key_of-Recursive c.in-Recursive.field-0 c.in-Recursive.field-1 c.in-Recursive.shown) in
    let e = c.in-Some.ensures.step ∙ ap (λ o. totals_step (hier_of k.hier.now) k.path.now o (map agg_of k.items.now)) (sym same) in
    subst (λ s. AreReady c.args.context.now (step_hierarchies s)) e c.requires.named

pub run_grouping-returns-in-Recursive-clause-mean : goal.run_grouping-returns-in-Recursive-clause-mean
run_grouping-returns-in-Recursive-clause-mean g t c = λ S S' R.
    let k = c.in-Some.totals in
    let same = shown-same c.args.step.now c.in-GroupBy.keys c.in-GroupBy.field-1 c.index-items-0.result c.in-Recursive.field-0 c.in-Recursive.field-1 c.in-Recursive.shown (hier_of k.hier.now) k.path.now (inner_of (option_map pipe_of k.shown.now)) (map agg_of k.items.now)
    (ap step_of c.in-GroupBy.is ∙ step_of-GroupBy c.in-GroupBy.keys c.in-GroupBy.field-1) c.in-Some.ensures.step
    (ap (λ ks. slice_get ks 0) (sym c.as_slice-items.ensures.value) ∙ slice-at c.as_slice-items.result.now 0 c.index-items-0.result (omega (arith, c.if-items-eq0.false)) c.index-items-0.is)
    (ap key_of c.in-Recursive.is ∙ key_of-Recursive c.in-Recursive.field-0 c.in-Recursive.field-1 c.in-Recursive.shown) in
    let e = c.in-Some.ensures.step ∙ ap (λ o. totals_step (hier_of k.hier.now) k.path.now o (map agg_of k.items.now)) (sym same) in
    subst (Gives c.run_totals.result) (sym (step-mean-on c.args.context.now S {l = c.args.rows.now} e refl)) (c.run_totals.ensures.mean S S' (step-runs-on e refl R))

pub run_grouping-returns-in-Recursive-clause-steps : goal.run_grouping-returns-in-Recursive-clause-steps
run_grouping-returns-in-Recursive-clause-steps g t c = λ S S' R.
    let k = c.in-Some.totals in
    let same = shown-same c.args.step.now c.in-GroupBy.keys c.in-GroupBy.field-1 c.index-items-0.result c.in-Recursive.field-0 c.in-Recursive.field-1 c.in-Recursive.shown (hier_of k.hier.now) k.path.now (inner_of (option_map pipe_of k.shown.now)) (map agg_of k.items.now)
    (ap step_of c.in-GroupBy.is ∙ step_of-GroupBy c.in-GroupBy.keys c.in-GroupBy.field-1) c.in-Some.ensures.step
    (ap (λ ks. slice_get ks 0) (sym c.as_slice-items.ensures.value) ∙ slice-at c.as_slice-items.result.now 0 c.index-items-0.result (omega (arith, c.if-items-eq0.false)) c.index-items-0.is)
    (ap key_of c.in-Recursive.is ∙ key_of-Recursive c.in-Recursive.field-0 c.in-Recursive.field-1 c.in-Recursive.shown) in
    let e = c.in-Some.ensures.step ∙ ap (λ o. totals_step (hier_of k.hier.now) k.path.now o (map agg_of k.items.now)) (sym same) in
    let spent = c.run_totals.ensures.steps S S' (step-runs-on e refl R) in
    let whole = step-cost-on c.args.context.now S {l = c.args.rows.now} e refl in
    omega (arith, spent, whole)

-- ---- the nodes that are shown

pub run_shown-run_pipe-requires-clause-named : goal.run_shown-run_pipe-requires-clause-named
run_shown-run_pipe-requires-clause-named g t c κs within = subst (λ o. AreReady c.args.context.now (inner_hierarchies (inner_of (option_map pipe_of o)))) c.in-Some.is c.requires.named

pub run_shown-run_pipe-requires-clause-ready : goal.run_shown-run_pipe-requires-clause-ready
run_shown-run_pipe-requires-clause-ready g t c κs within =
    let x = c.args.context.now in
    let h = hier_of c.args.hier.now in
    let f = found (hierarchy_at x.world.model h) c.requires.there in
    let R = subst (λ o. ShownReady x h (inner_of (option_map pipe_of o))) c.in-Some.is c.requires.ready f.0 f.1 in
    let u = shown-run h R.1 f.1 (c.nodes-nodes.ensures.set f.0 f.1) (c.set_type.ensures.value ∙ ap (λ m. set_type m c.nodes-nodes.result.set) (c.model.ensures.value ∙ ap (λ (w : World). w.model) c.store-store.ensures.value)) (c.in_ok-rows-in-Some.ensures.rows ∙ ap (λ (w : World). instances.rows w c.nodes-nodes.result.set) c.store-store.ensures.value) in
    (set_shape f.0.type, u.shape, u.runs)

pub run_shown-returns-in_err-rows-in-Some-clause-steps : goal.run_shown-returns-in_err-rows-in-Some-clause-steps
run_shown-returns-in_err-rows-in-Some-clause-steps g t c = λ f at.
    let x = c.args.context.now in
    let made = c.set_rows.ensures.steps in
    let counts = ap (λ (w : World). count w c.nodes-nodes.result.set) c.store-store.ensures.value in
    let least = shown-rows x f (pipe_of c.in-Some.pipe) c.nodes-nodes.result.set (c.nodes-nodes.ensures.set f at) in
    let whole = ap (λ o. given_applications x.world (readings x.customs) (set_shape f.type) (inner_of (option_map pipe_of o)) (instances.rows x.world f.set ∷ [])) c.in-Some.is in
    omega (arith, made, counts, least, whole)

pub run_shown-returns-in_err-rows-in-Some-clause-grown : goal.run_shown-returns-in_err-rows-in-Some-clause-grown
run_shown-returns-in_err-rows-in-Some-clause-grown g t c = omega (arith, c.set_rows.ensures.grown)

pub run_shown-returns-in_err-made-in-Some-clause-shown : goal.run_shown-returns-in_err-made-in-Some-clause-shown
run_shown-returns-in_err-made-in-Some-clause-shown g t c = λ f at.
    let x = c.args.context.now in
    let h = hier_of c.args.hier.now in
    let T = pipe_of c.in-Some.pipe in
    let R = subst (λ o. ShownReady x h (inner_of (option_map pipe_of o))) c.in-Some.is c.requires.ready f at in
    let u = shown-run h R.1 at (c.nodes-nodes.ensures.set f at) (c.set_type.ensures.value ∙ ap (λ m. set_type m c.nodes-nodes.result.set) (c.model.ensures.value ∙ ap (λ (w : World). w.model) c.store-store.ensures.value)) (c.in_ok-rows-in-Some.ensures.rows ∙ ap (λ (w : World). instances.rows w c.nodes-nodes.result.set) c.store-store.ensures.value) in
    let whole = ap (λ o. inner_mean x.world (readings x.customs) (set_shape f.type) (λ l. Some l) (inner_of (option_map pipe_of o)) (instances.rows x.world f.set)) c.in-Some.is in
    let p = err_from_is_err_and c.from_residual-in_err-made-in-Some.result c.from_residual-in_err-made-in-Some.ensures.1 in
    rw (p.1, p.2) (shown-err c.in_err-made-in-Some.field-0.0 _ _ (whole ∙ u.means) (c.in_err-made-in-Some.ensures.mean (set_shape f.type) u.shape u.runs))

pub run_shown-returns-in_err-made-in-Some-clause-steps : goal.run_shown-returns-in_err-made-in-Some-clause-steps
run_shown-returns-in_err-made-in-Some-clause-steps g t c = λ f at.
    let x = c.args.context.now in
    let h = hier_of c.args.hier.now in
    let R = subst (λ o. ShownReady x h (inner_of (option_map pipe_of o))) c.in-Some.is c.requires.ready f at in
    let u = shown-run h R.1 at (c.nodes-nodes.ensures.set f at) (c.set_type.ensures.value ∙ ap (λ m. set_type m c.nodes-nodes.result.set) (c.model.ensures.value ∙ ap (λ (w : World). w.model) c.store-store.ensures.value)) (c.in_ok-rows-in-Some.ensures.rows ∙ ap (λ (w : World). instances.rows w c.nodes-nodes.result.set) c.store-store.ensures.value) in
    let made = c.set_rows.ensures.steps in
    let counts = ap (λ (w : World). count w c.nodes-nodes.result.set) c.store-store.ensures.value in
    let ran = c.run_pipe.ensures.steps (set_shape f.type) u.shape u.runs in
    let least = u.costs in
    let whole = ap (λ o. given_applications x.world (readings x.customs) (set_shape f.type) (inner_of (option_map pipe_of o)) (instances.rows x.world f.set ∷ [])) c.in-Some.is in
    omega (arith, made, counts, ran, least, whole)

pub run_shown-returns-in_err-made-in-Some-clause-grown : goal.run_shown-returns-in_err-made-in-Some-clause-grown
run_shown-returns-in_err-made-in-Some-clause-grown g t c = omega (arith, c.set_rows.ensures.grown, c.run_pipe.ensures.grown)

pub run_shown-shown_nodes-requires : goal.run_shown-shown_nodes-requires
run_shown-shown_nodes-requires g t c =
    let x = c.args.context.now in
    let h = hier_of c.args.hier.now in
    let T = pipe_of c.in-Some.pipe in
    let f = found (hierarchy_at x.world.model h) c.requires.there in
    let set = c.nodes-nodes.ensures.set f.0 f.1 in
    let R = subst (λ o. ShownReady x h (inner_of (option_map pipe_of o))) c.in-Some.is c.requires.ready f.0 f.1 in
    let u = shown-run h R.1 f.1 set (c.set_type.ensures.value ∙ ap (λ m. set_type m c.nodes-nodes.result.set) (c.model.ensures.value ∙ ap (λ (w : World). w.model) c.store-store.ensures.value)) (c.in_ok-rows-in-Some.ensures.rows ∙ ap (λ (w : World). instances.rows w c.nodes-nodes.result.set) c.store-store.ensures.value) in
    let own = ap (mean x.world (readings x.customs) (set_shape f.0.type) T) (sym (c.in_ok-rows-in-Some.ensures.rows ∙ ap (λ (w : World). instances.rows w c.nodes-nodes.result.set) c.store-store.ensures.value ∙ ap (instances.rows x.world) set)) ∙ c.in_ok-made-in-Some.ensures.mean (set_shape f.0.type) u.shape u.runs in
    let below = shown-below x h f.0 R.0 T c.nodes-nodes.result.set c.in_ok-made-in-Some.made.items (subst IsLoaded c.store-store.ensures.value c.data_is_loaded.ensures.value) f.1 set R.1 own in
    subst (λ n. AreRootsBelow n c.as_slice.result.now) (sym (c.count.ensures.value ∙ ap (λ (w : World). count w c.nodes-nodes.result.set) c.store-store.ensures.value)) (subst (AreRootsBelow (count x.world c.nodes-nodes.result.set)) (sym c.as_slice.ensures.value) below)

pub run_shown-returns-in_err-shown_nodes-in-Some-clause-steps : goal.run_shown-returns-in_err-shown_nodes-in-Some-clause-steps
run_shown-returns-in_err-shown_nodes-in-Some-clause-steps g t c = λ f at.
    let x = c.args.context.now in
    let h = hier_of c.args.hier.now in
    let R = subst (λ o. ShownReady x h (inner_of (option_map pipe_of o))) c.in-Some.is c.requires.ready f at in
    let u = shown-run h R.1 at (c.nodes-nodes.ensures.set f at) (c.set_type.ensures.value ∙ ap (λ m. set_type m c.nodes-nodes.result.set) (c.model.ensures.value ∙ ap (λ (w : World). w.model) c.store-store.ensures.value)) (c.in_ok-rows-in-Some.ensures.rows ∙ ap (λ (w : World). instances.rows w c.nodes-nodes.result.set) c.store-store.ensures.value) in
    let made = c.set_rows.ensures.steps in
    let counts = ap (λ (w : World). count w c.nodes-nodes.result.set) c.store-store.ensures.value in
    let ran = c.run_pipe.ensures.steps (set_shape f.type) u.shape u.runs in
    let least = u.costs in
    let whole = ap (λ o. given_applications x.world (readings x.customs) (set_shape f.type) (inner_of (option_map pipe_of o)) (instances.rows x.world f.set ∷ [])) c.in-Some.is in
    omega (arith, made, counts, ran, least, whole)

pub run_shown-returns-in_err-shown_nodes-in-Some-clause-grown : goal.run_shown-returns-in_err-shown_nodes-in-Some-clause-grown
run_shown-returns-in_err-shown_nodes-in-Some-clause-grown g t c = omega (arith, c.set_rows.ensures.grown, c.run_pipe.ensures.grown)

pub run_shown-returns-in_ok-shown_nodes-in-Some-clause-steps : goal.run_shown-returns-in_ok-shown_nodes-in-Some-clause-steps
run_shown-returns-in_ok-shown_nodes-in-Some-clause-steps g t c = λ f at.
    let x = c.args.context.now in
    let h = hier_of c.args.hier.now in
    let R = subst (λ o. ShownReady x h (inner_of (option_map pipe_of o))) c.in-Some.is c.requires.ready f at in
    let u = shown-run h R.1 at (c.nodes-nodes.ensures.set f at) (c.set_type.ensures.value ∙ ap (λ m. set_type m c.nodes-nodes.result.set) (c.model.ensures.value ∙ ap (λ (w : World). w.model) c.store-store.ensures.value)) (c.in_ok-rows-in-Some.ensures.rows ∙ ap (λ (w : World). instances.rows w c.nodes-nodes.result.set) c.store-store.ensures.value) in
    let made = c.set_rows.ensures.steps in
    let counts = ap (λ (w : World). count w c.nodes-nodes.result.set) c.store-store.ensures.value in
    let ran = c.run_pipe.ensures.steps (set_shape f.type) u.shape u.runs in
    let least = u.costs in
    let whole = ap (λ o. given_applications x.world (readings x.customs) (set_shape f.type) (inner_of (option_map pipe_of o)) (instances.rows x.world f.set ∷ [])) c.in-Some.is in
    omega (arith, made, counts, ran, least, whole)

pub run_shown-returns-in_ok-shown_nodes-in-Some-clause-grown : goal.run_shown-returns-in_ok-shown_nodes-in-Some-clause-grown
run_shown-returns-in_ok-shown_nodes-in-Some-clause-grown g t c = omega (arith, c.set_rows.ensures.grown, c.run_pipe.ensures.grown)

pub run_shown-returns-in_ok-shown_nodes-in-Some-clause-shown : goal.run_shown-returns-in_ok-shown_nodes-in-Some-clause-shown
run_shown-returns-in_ok-shown_nodes-in-Some-clause-shown g t c = λ f at.
    let x = c.args.context.now in
    let h = hier_of c.args.hier.now in
    let R = subst (λ o. ShownReady x h (inner_of (option_map pipe_of o))) c.in-Some.is c.requires.ready f at in
    let u = shown-run h R.1 at (c.nodes-nodes.ensures.set f at) (c.set_type.ensures.value ∙ ap (λ m. set_type m c.nodes-nodes.result.set) (c.model.ensures.value ∙ ap (λ (w : World). w.model) c.store-store.ensures.value)) (c.in_ok-rows-in-Some.ensures.rows ∙ ap (λ (w : World). instances.rows w c.nodes-nodes.result.set) c.store-store.ensures.value) in
    let whole = ap (λ o. inner_mean x.world (readings x.customs) (set_shape f.type) (λ l. Some l) (inner_of (option_map pipe_of o)) (instances.rows x.world f.set)) c.in-Some.is in
    ap (option_map shown_of) (whole ∙ u.means ∙ c.in_ok-made-in-Some.ensures.mean (set_shape f.type) u.shape u.runs)
    ∙ ap Some (ap shown_of (sym c.as_slice.ensures.value) ∙ sym c.in_ok-shown_nodes-in-Some.ensures.value)

pub run_shown-returns-in_ok-all_nodes-in-None-clause-shown : goal.run_shown-returns-in_ok-all_nodes-in-None-clause-shown
run_shown-returns-in_ok-all_nodes-in-None-clause-shown g t c = λ f at.
    let x = c.args.context.now in
    let set = c.nodes-nodes.ensures.set f at in
    let whole = ap (λ o. inner_mean x.world (readings x.customs) (set_shape f.type) (λ l. Some l) (inner_of (option_map pipe_of o)) (instances.rows x.world f.set)) c.in-None.is in
    ap (option_map shown_of) (whole ∙ inner_mean-NoPipe x.world (readings x.customs) (set_shape f.type) (λ l. Some l) (instances.rows x.world f.set))
    ∙ ap Some ((λ i. shown_of (instances.rows (sym c.store-store.ensures.value i) (sym set i))) ∙ sym c.in_ok-all_nodes-in-None.ensures.value)
