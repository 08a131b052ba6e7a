use Rattle.std.proofs.Common.{rules, ◌≡◌, ◌<◌, ◌≤◌, ℕ, ◌+◌, ◌∙◌, ◌++◌, [], List, ap, refl, sym, subst, length, map, drop, get_or, Some, Err, IsTrue, arith}
use Rattle.std.specs.Prelude.{IfSome, nat_lt, option_and_then, option_map, slice_get}
use Rattle.std.specs.List.{list_all}
use Rattle.std.proofs.lemmas.Option.{slice_get-get_or}
use Rattle.std.proofs.lemmas.List.{get_or_default, length-map}
use Rattle.std.proofs.lemmas.Result.{err_from_is_err_and}
use Rattle.std.proofs.Math.ListN.{drop_of_length-le}
use Rattle.apply_ast.specs.Trees as tree
use Rattle.apply_ast.specs.Trees.{Pipe}
use Rattle.apply_ast.specs.Views.{climb_of, expr_of, hier_of, inner_of, keys_of, pipe_of, pipes_in, step_of}
use Rattle.apply_ast.proofs.ViewEquations.{climb_of-is, join_of-is, pipes_of-is, step_of-Climb, step_of-Concat, step_of-Filter, step_of-GroupBy, step_of-Join}
use Rattle.context_typing.specs.Readings.{readings}
use Rattle.apply_meaning.specs.Meaning.{Outcome, inner_mean, joined, keyed, mean, step_mean}
use Rattle.apply_meaning.specs.Instances.{Instance, extended, no_instance}
use Rattle.apply_meaning.specs.RowViews.{columns_differ}
use Rattle.apply_meaning.specs.Running.{Gives}
use Rattle.apply_meaning.specs.MeaningLaws.{IsLoaded}
use Rattle.apply_meaning.proofs.MeaningEquations.{inner_mean-NoPipe, inner_mean-SomePipe, mean-End, step_mean-Filter}
use Rattle.apply_meaning.proofs.RunLemmas.{all-fit-of, gives-err, turn, next-step}
use Rattle.row_frames.specs.Frames.{GivesFrame}
use Rattle.hier_states.specs.NamedHierarchies.{branch_hierarchies, hierarchies, inner_hierarchies, keys_hierarchies, step_hierarchies}
use Rattle.pipe_run.specs.SeveralRuns.{BranchesReady}
use Rattle.step_run.specs.Conditions.{AreReady, InnerRuns, ReadyFrom, RunsFrom, StepReadyFrom, StepRunsFrom, charge_of, is_grouping}
use Rattle.step_run.specs.Costs.{cost, inner_cost, result_length, step_cost}
use Rattle.frame_run.specs.HeldRows.{GivesHeld, first_of, owed, rows_of}
use Rattle.frame_run.specs.declared.held.Held.{Held}
use Rattle.edm_model.specs.Models.{Navigation}
use Rattle.edm_values.specs.Lists.{all_some, at_places}
use Rattle.edm_values.specs.declared.Value.{Value}
use Rattle.edm_values.proofs.OptionFacts.{some_value}
use Rattle.context_typing.specs.Shapes.{Shape, set_shape}
use Rattle.join_concat.specs.Joins.{bound_rows}
use Rattle.pipe_run.proofs.ListsInTurn.{last-list, next-list, next-list_refused}
use Rattle.pipe_run.proofs.RelatedLemmas.{join-run, related-least, related-turn, related_mean}
use Rattle.frame_run.proofs.JoinLemmas.{join-refused, lists-refused, more-owed, more-rows, results-long}
use Rattle.frame_run.proofs.HeldLemmas.{climb-inner, first-long, found-refused, held-err, held-refused, made-least, owed-beside, owed-least}
use Rattle.pipe_run.proofs.ClimbLemmas.{climb-costs, climb-means, climb-of}
use Rattle.pipe_run.proofs.ConcatLemmas.{branch-at, branch-turn, concat-run}
use Rattle.step_run.proofs.GroupLemmas.{begun}
use Rattle.pipe_run.proofs.ReadyParts.{ready-back, ready-branch, ready-first, ready-front, ready-here, ready-next, ready-others}
use Rattle.step_run.proofs.GroupingRun.{grouping-run, step-cost-on, step-mean-on, step-runs-on}
use Rattle.step_run.proofs.LevelLemmas.{keys-least, keys-ready}
use Rattle.step_run.proofs.RunLemmas.{cost-same, gives-same, ready-same, runs-same, turn-cost, turn-least}
use Rattle.step_run.specs.Levels.{Level, group_made, level_made}
use Rattle.step_run.proofs.RunLevels.{group-run, last-joined, level-costs, levels-err, next-group, next-joined, next-level, next-refused, read-key, read-places, total-charge}
use Rattle.frame_run.proofs.held.+held.Goals as goal

-- ---- the transformations of a pipeline

pub held_after-held_ready-requires-clause-ready : goal.held_after-held_ready-requires-clause-ready
held_after-held_ready-requires-clause-ready g t c κs within =
    let r = c.requires.ready in
    let i = c.loop-i.invariant.1 r.0 r.1 r.2 in
    (i.0, r.1, i.1)

pub held_after-run_on_held-requires-clause-named : goal.held_after-run_on_held-requires-clause-named
held_after-run_on_held-requires-clause-named g t c κs within = ready-here c.args.context.now c.steps-all.result.now c.loop-i.i c.index-all-i.result c.loop-i-test.true c.index-all-i.is c.loop-i.invariant.0

pub held_after-returns-in_err-held-clause-mean : goal.held_after-returns-in_err-held-clause-mean
held_after-returns-in_err-held-clause-mean g t c = λ S S' R.
    let w = c.args.context.now.world in
    let cs = readings c.args.context.now.customs in
    let ss = c.steps-all.result.now in
    let rest = tree.pipe (map step_of (drop (c.loop-i.i + 1) ss)) in
    let e = next-step ss c.loop-i.i c.index-all-i.result c.loop-i-test.true c.index-all-i.is in
    let i = c.loop-i.invariant.1 S S' R in
    let u = turn w cs i.0 S' _ (step_of c.index-all-i.result) rest (rows_of c.loop-i.held) e (i.1).runs in
    let p = err_from_is_err_and c.from_residual.result c.from_residual.ensures.1 in
    rw (p.1, p.2) (held-refused c.in_err-held.field-0.0 (step_mean w cs i.0 (step_of c.index-all-i.result) (rows_of c.loop-i.held)) _ (c.in_err-held.ensures.mean i.0 u.between (record { runs = u.first; root_is = (i.1).root_is }))
    (λ n. i.2 ∙ u.meaning ∙ ap (option_and_then (mean w cs u.between rest)) n))

pub held_after-returns-in_err-held-clause-steps : goal.held_after-returns-in_err-held-clause-steps
held_after-returns-in_err-held-clause-steps g t c = λ S S' R.
    let w = c.args.context.now.world in
    let cs = readings c.args.context.now.customs in
    let ss = c.steps-all.result.now in
    let rest = tree.pipe (map step_of (drop (c.loop-i.i + 1) ss)) in
    let e = next-step ss c.loop-i.i c.index-all-i.result c.loop-i-test.true c.index-all-i.is in
    let i = c.loop-i.invariant.1 S S' R in
    let u = turn w cs i.0 S' _ (step_of c.index-all-i.result) rest (rows_of c.loop-i.held) e (i.1).runs in
    let s = c.run_on_held.ensures.steps i.0 u.between (record { runs = u.first; root_is = (i.1).root_is }) in
    let least = turn-least w cs i.0 _ (step_of c.index-all-i.result) rest (rows_of c.loop-i.held) e in
    let left = i.3 in
    let p = err_from_is_err_and c.from_residual.result c.from_residual.ensures.1 in
    rw p.1 (omega (arith, s, least, left))

pub held_after-returns-in_err-held-clause-grown : goal.held_after-returns-in_err-held-clause-grown
held_after-returns-in_err-held-clause-grown g t c = omega (arith, c.run_on_held.ensures.grown, c.loop-i.invariant.2)

pub held_after-loop-i-preserved : goal.held_after-loop-i-preserved
held_after-loop-i-preserved g t c = (
  ready-next c.args.context.now c.steps-all.result.now c.loop-i.i c.index-all-i.result c.loop-i-test.true c.index-all-i.is c.loop-i.invariant.0,
  λ S S' R.
      let w = c.args.context.now.world in
      let cs = readings c.args.context.now.customs in
      let ss = c.steps-all.result.now in
      let rest = tree.pipe (map step_of (drop (c.loop-i.i + 1) ss)) in
      let e = next-step ss c.loop-i.i c.index-all-i.result c.loop-i-test.true c.index-all-i.is in
      let i = c.loop-i.invariant.1 S S' R in
      let u = turn w cs i.0 S' _ (step_of c.index-all-i.result) rest (rows_of c.loop-i.held) e (i.1).runs in
      let first : StepRunsFrom c.args.context.now c.loop-i.root i.0 u.between (step_of c.index-all-i.result) (rows_of c.loop-i.held) = record { runs = u.first; root_is = (i.1).root_is } in
      let m = c.in_ok-held.ensures.mean i.0 u.between first in
      let s = c.in_ok-held.ensures.steps i.0 u.between first in
      let spent = turn-cost w cs i.0 S' _ (step_of c.index-all-i.result) rest (rows_of c.loop-i.held) (rows_of c.in_ok-held.held) e u m in
      let left = i.3 in (
        u.between,
        record {
          runs = u.next (rows_of c.in_ok-held.held) (subst IsLoaded c.store.ensures.value c.data_is_loaded.ensures.value) m;
          root_is = c.root_after-root.ensures.value w.model cs i.0 u.between u.first.typed (i.1).root_is;
        },
        i.2 ∙ u.meaning ∙ ap (option_and_then (mean w cs u.between rest)) m,
        omega (arith, s, spent, left),
      ),
  omega (arith, c.run_on_held.ensures.grown, c.loop-i.invariant.2),
)

pub held_after-returns-clause-mean : goal.held_after-returns-clause-mean
held_after-returns-clause-mean g t c = λ S S' R.
    let w = c.args.context.now.world in
    let cs = readings c.args.context.now.customs in
    let i = c.loop-i.invariant.1 S S' R in
    i.2 ∙ ap (λ ss. mean w cs i.0 (tree.pipe (map step_of ss)) (rows_of c.loop-i.held)) (drop_of_length-le c.steps-all.result.now (omega (arith, c.loop-i-test.false))) ∙ mean-End w cs i.0 (rows_of c.loop-i.held)

pub held_after-returns-clause-steps : goal.held_after-returns-clause-steps
held_after-returns-clause-steps g t c = λ S S' R.
    let left = (c.loop-i.invariant.1 S S' R).3 in
    omega (arith, left)

pub held_after-returns-clause-grown : goal.held_after-returns-clause-grown
held_after-returns-clause-grown g t c = omega (arith, c.loop-i.invariant.2)

-- ---- rows that are made, or not

pub run_on_held-run_frame-requires-clause-ready : goal.run_on_held-run_frame-requires-clause-ready
run_on_held-run_frame-requires-clause-ready g t c κs within =
    subst (λ (h : Held). StepReadyFrom c.args.context.now c.args.root.now (step_of c.args.step.now) (rows_of h)) c.in-Frame.is c.requires.ready

pub run_on_held-run_step-requires-clause-ready : goal.run_on_held-run_step-requires-clause-ready
run_on_held-run_step-requires-clause-ready g t c κs within =
    subst (λ (h : Held). StepReadyFrom c.args.context.now c.args.root.now (step_of c.args.step.now) (rows_of h)) c.in-Rows.is c.requires.ready

pub run_on_held-returns-in-Frame-clause-mean : goal.run_on_held-returns-in-Frame-clause-mean
run_on_held-returns-in-Frame-clause-mean g t c = λ S S' R.
    let x = c.args.context.now in
    let s = step_of c.args.step.now in
    let e = c.in-Frame.is in
    subst (λ (h : Held). GivesHeld c.run_frame.result (step_mean x.world (readings x.customs) S s (rows_of h))) (sym e)
    (c.run_frame.ensures.mean S S' (subst (λ (h : Held). StepRunsFrom x c.args.root.now S S' s (rows_of h)) e R))

pub run_on_held-returns-in-Frame-clause-steps : goal.run_on_held-returns-in-Frame-clause-steps
run_on_held-returns-in-Frame-clause-steps g t c = λ S S' R.
    let x = c.args.context.now in
    let s = step_of c.args.step.now in
    let e = c.in-Frame.is in
    let spent = c.run_frame.ensures.steps S S' (subst (λ (h : Held). StepRunsFrom x c.args.root.now S S' s (rows_of h)) e R) in
    let same = ap (λ (h : Held). step_cost x.world (readings x.customs) S s (rows_of h)) e in
    let owes = ap owed e in
    omega (arith, spent, same, owes)

pub run_on_held-returns-in-Rows-clause-mean : goal.run_on_held-returns-in-Rows-clause-mean
run_on_held-returns-in-Rows-clause-mean g t c = λ S S' R.
    let x = c.args.context.now in
    let s = step_of c.args.step.now in
    let e = c.in-Rows.is in
    subst (λ (h : Held). GivesHeld c.as_held.result (step_mean x.world (readings x.customs) S s (rows_of h))) (sym e)
    (c.as_held.ensures.gives (step_mean x.world (readings x.customs) S s c.in-Rows.rows.items) (c.run_step.ensures.mean S S' (subst (λ (h : Held). StepRunsFrom x c.args.root.now S S' s (rows_of h)) e R)))

pub run_on_held-returns-in-Rows-clause-steps : goal.run_on_held-returns-in-Rows-clause-steps
run_on_held-returns-in-Rows-clause-steps g t c = λ S S' R.
    let x = c.args.context.now in
    let s = step_of c.args.step.now in
    let e = c.in-Rows.is in
    let spent = c.run_step.ensures.steps S S' (subst (λ (h : Held). StepRunsFrom x c.args.root.now S S' s (rows_of h)) e R) in
    let same = ap (λ (h : Held). step_cost x.world (readings x.customs) S s (rows_of h)) e in
    omega (arith, spent, same, c.as_held.ensures.owed)

-- ---- a set of which no list is made

pub run_on_held-run_set-requires-clause-ready : goal.run_on_held-run_set-requires-clause-ready
run_on_held-run_set-requires-clause-ready g t c κs within =
    subst (λ (h : Held). StepReadyFrom c.args.context.now c.args.root.now (step_of c.args.step.now) (rows_of h)) c.in-Set.is c.requires.ready

pub run_on_held-returns-in-Set-clause-mean : goal.run_on_held-returns-in-Set-clause-mean
run_on_held-returns-in-Set-clause-mean g t c = λ S S' R.
    let x = c.args.context.now in
    let s = step_of c.args.step.now in
    let e = c.in-Set.is in
    subst (λ (h : Held). GivesHeld c.run_set.result (step_mean x.world (readings x.customs) S s (rows_of h))) (sym e)
    (c.run_set.ensures.mean S S' (subst (λ (h : Held). StepRunsFrom x c.args.root.now S S' s (rows_of h)) e R))

pub run_on_held-returns-in-Set-clause-steps : goal.run_on_held-returns-in-Set-clause-steps
run_on_held-returns-in-Set-clause-steps g t c = λ S S' R.
    let x = c.args.context.now in
    let s = step_of c.args.step.now in
    let e = c.in-Set.is in
    let spent = c.run_set.ensures.steps S S' (subst (λ (h : Held). StepRunsFrom x c.args.root.now S S' s (rows_of h)) e R) in
    let same = ap (λ (h : Held). step_cost x.world (readings x.customs) S s (rows_of h)) e in
    let owes = ap owed e in
    omega (arith, spent, same, owes)

pub run_set-set_filtered-requires-after_bounds : goal.run_set-set_filtered-requires-after_bounds
run_set-set_filtered-requires-after_bounds g t c κs within =
    let r = c.requires.ready in all-fit-of c.args.context.now.world r.0 (first_of c.args.set c.args.n) (r.2).runs.fit

pub run_set-returns-in-Filter-clause-mean : goal.run_set-returns-in-Filter-clause-mean
run_set-returns-in-Filter-clause-mean g t c = λ S S' R.
    let x = c.args.context.now in
    let l = first_of c.args.set c.args.n in
    let e = expr_of c.in-Filter.e in
    let m = ap (λ s. step_mean x.world (readings x.customs) S s l) (ap step_of c.in-Filter.is ∙ step_of-Filter c.in-Filter.e) ∙ step_mean-Filter x.world (readings x.customs) S e l in
    c.as_frame.ensures (step_mean x.world (readings x.customs) S (step_of c.args.step.now) l) (subst (GivesFrame c.set_filtered.result) (sym m) c.set_filtered.ensures)

pub run_set-returns-in-Filter-clause-steps : goal.run_set-returns-in-Filter-clause-steps
run_set-returns-in-Filter-clause-steps g t c = λ S S' R.
    let x = c.args.context.now in
    let l = first_of c.args.set c.args.n in
    let e = expr_of c.in-Filter.e in
    let m = ap (λ s. step_mean x.world (readings x.customs) S s l) (ap step_of c.in-Filter.is ∙ step_of-Filter c.in-Filter.e) ∙ step_mean-Filter x.world (readings x.customs) S e l in
    let given = c.as_frame.ensures (step_mean x.world (readings x.customs) S (step_of c.args.step.now) l) (subst (GivesFrame c.set_filtered.result) (sym m) c.set_filtered.ensures) in
    let least = owed-least x.world (readings x.customs) S (step_of c.args.step.now) l c.as_frame.result given in
    omega (arith, least)

pub run_set-run_set_climb-requires-clause-ready : goal.run_set-run_set_climb-requires-clause-ready
run_set-run_set_climb-requires-clause-ready g t c κs within =
    let x = c.args.context.now in
    subst (λ s. StepReadyFrom x c.args.root.now s (first_of c.args.set c.args.n)) (ap step_of c.in-Climb.is ∙ step_of-Climb c.in-Climb.climb) c.requires.ready

pub run_set-run_set_climb-requires-clause-named : goal.run_set-run_set_climb-requires-clause-named
run_set-run_set_climb-requires-clause-named g t c κs within =
    let x = c.args.context.now in
    subst (λ s. AreReady x (step_hierarchies s)) (ap step_of c.in-Climb.is ∙ step_of-Climb c.in-Climb.climb) c.requires.named

pub run_set-returns-in-Climb-clause-mean : goal.run_set-returns-in-Climb-clause-mean
run_set-returns-in-Climb-clause-mean g t c = λ S S' R.
    let x = c.args.context.now in
    let l = first_of c.args.set c.args.n in
    let e = ap step_of c.in-Climb.is ∙ step_of-Climb c.in-Climb.climb in
    subst (GivesHeld c.run_set_climb.result) (sym (ap (λ s. step_mean x.world (readings x.customs) S s l) e)) (c.run_set_climb.ensures.mean S S' (subst (λ s. StepRunsFrom x c.args.root.now S S' s l) e R))

pub run_set-returns-in-Climb-clause-steps : goal.run_set-returns-in-Climb-clause-steps
run_set-returns-in-Climb-clause-steps g t c = λ S S' R.
    let x = c.args.context.now in
    let l = first_of c.args.set c.args.n in
    let e = ap step_of c.in-Climb.is ∙ step_of-Climb c.in-Climb.climb in
    let spent = c.run_set_climb.ensures.steps S S' (subst (λ s. StepRunsFrom x c.args.root.now S S' s l) e R) in
    let whole = ap (λ s. step_cost x.world (readings x.customs) S s l) e in
    omega (arith, spent, whole)

pub run_set-run_frame-requires-clause-ready : goal.run_set-run_frame-requires-clause-ready
run_set-run_frame-requires-clause-ready g t c κs within =
    subst (StepReadyFrom c.args.context.now c.args.root.now (step_of c.args.step.now)) (sym c.in_ok-frame-in_default.ensures.value) c.requires.ready

pub run_set-returns-in_ok-frame-in_default-clause-mean : goal.run_set-returns-in_ok-frame-in_default-clause-mean
run_set-returns-in_ok-frame-in_default-clause-mean g t c = λ S S' R.
    let x = c.args.context.now in
    let s = step_of c.args.step.now in
    let e = c.in_ok-frame-in_default.ensures.value in
    subst (λ l. GivesHeld c.run_frame.result (step_mean x.world (readings x.customs) S s l)) e
    (c.run_frame.ensures.mean S S' (subst (StepRunsFrom x c.args.root.now S S' s) (sym e) R))

pub run_set-returns-in_ok-frame-in_default-clause-steps : goal.run_set-returns-in_ok-frame-in_default-clause-steps
run_set-returns-in_ok-frame-in_default-clause-steps g t c = λ S S' R.
    let x = c.args.context.now in
    let s = step_of c.args.step.now in
    let e = c.in_ok-frame-in_default.ensures.value in
    let spent = c.run_frame.ensures.steps S S' (subst (StepRunsFrom x c.args.root.now S S' s) (sym e) R) in
    let same = ap (step_cost x.world (readings x.customs) S s) e in
    let long = ap length e ∙ first-long c.args.set c.args.n in
    omega (arith, spent, same, long)

pub run_set_climb-held_after-requires-clause-ready : goal.run_set_climb-held_after-requires-clause-ready
run_set_climb-held_after-requires-clause-ready g t c κs within =
    let r = c.requires.ready in
    let u = climb-of c.args.climb.now r.2 in
    (r.0, u.shape, u.runs)

pub run_set_climb-held_after-requires-clause-named : goal.run_set_climb-held_after-requires-clause-named
run_set_climb-held_after-requires-clause-named g t c κs within =
    let x = c.args.context.now in
    let k = c.args.climb.now in
    ready-others x (hier_of k.hier) (hierarchies (pipe_of k.inner)) (subst (λ s. AreReady x (step_hierarchies s)) (climb_of-is k) c.requires.named)

pub run_set_climb-set_climbed-requires-clause-of : goal.run_set_climb-set_climbed-requires-clause-of
run_set_climb-set_climbed-requires-clause-of g t c κs within =
    let r = c.requires.ready in all-fit-of c.args.context.now.world r.0 (first_of c.args.set c.args.n) (r.2).runs.fit

pub run_set_climb-set_climbed-requires-clause-starts : goal.run_set_climb-set_climbed-requires-clause-starts
run_set_climb-set_climbed-requires-clause-starts g t c κs within =
    let k = c.args.climb.now in
    let r = c.requires.ready in
    let u = climb-of k r.2 in
    u.starts (rows_of c.in_ok-starts.starts) (subst IsLoaded c.store.ensures.value c.data_is_loaded.ensures.value) (c.in_ok-starts.ensures.mean r.0 u.shape u.runs)

pub run_set_climb-set_climbed-requires-clause-there : goal.run_set_climb-set_climbed-requires-clause-there
run_set_climb-set_climbed-requires-clause-there g t c κs within = (climb-of c.args.climb.now c.requires.ready.2).hierarchy

pub run_set_climb-set_climbed-requires-clause-ready : goal.run_set_climb-set_climbed-requires-clause-ready
run_set_climb-set_climbed-requires-clause-ready g t c κs within =
    let x = c.args.context.now in
    let k = c.args.climb.now in
    ready-first x (hier_of k.hier) (hierarchies (pipe_of k.inner)) (subst (λ s. AreReady x (step_hierarchies s)) (climb_of-is k) c.requires.named)

pub run_set_climb-returns-in_err-starts-clause-mean : goal.run_set_climb-returns-in_err-starts-clause-mean
run_set_climb-returns-in_err-starts-clause-mean g t c = λ S S' R.
    let x = c.args.context.now in
    let k = c.args.climb.now in
    let l = first_of c.args.set c.args.n in
    let u = climb-of k R in
    let p = err_from_is_err_and c.from_residual.result c.from_residual.ensures.1 in
    rw (p.1, p.2) (held-refused c.in_err-starts.field-0.0 (mean x.world (readings x.customs) S (pipe_of k.inner) l) (step_mean x.world (readings x.customs) S (climb_of k) l) (c.in_err-starts.ensures.mean S u.shape u.runs)
    (λ n. climb-means x S k l ∙ u.refused n))

pub run_set_climb-returns-in_err-starts-clause-steps : goal.run_set_climb-returns-in_err-starts-clause-steps
run_set_climb-returns-in_err-starts-clause-steps g t c = λ S S' R.
    let x = c.args.context.now in
    let k = c.args.climb.now in
    let l = first_of c.args.set c.args.n in
    let u = climb-of k R in
    let ran = c.held_after.ensures.steps S u.shape u.runs in
    let least = u.costs in
    let long = first-long c.args.set c.args.n in
    let whole = climb-costs x S k l in
    let p = err_from_is_err_and c.from_residual.result c.from_residual.ensures.1 in
    rw p.1 (omega (arith, long, ran, least, whole))

pub run_set_climb-returns-clause-mean : goal.run_set_climb-returns-clause-mean
run_set_climb-returns-clause-mean g t c = λ S S' R.
    let x = c.args.context.now in
    let k = c.args.climb.now in
    let l = first_of c.args.set c.args.n in
    let u = climb-of k R in
    let m = climb-means x S k l ∙ u.means (rows_of c.in_ok-starts.starts) (c.in_ok-starts.ensures.mean S u.shape u.runs) in
    c.as_frame.ensures (step_mean x.world (readings x.customs) S (climb_of k) l) (subst (GivesFrame c.set_climbed.result) (sym m) c.set_climbed.ensures)

pub run_set_climb-returns-clause-steps : goal.run_set_climb-returns-clause-steps
run_set_climb-returns-clause-steps g t c = λ S S' R.
    let x = c.args.context.now in
    let k = c.args.climb.now in
    let l = first_of c.args.set c.args.n in
    let u = climb-of k R in
    let m = climb-means x S k l ∙ u.means (rows_of c.in_ok-starts.starts) (c.in_ok-starts.ensures.mean S u.shape u.runs) in
    let given = c.as_frame.ensures (step_mean x.world (readings x.customs) S (climb_of k) l) (subst (GivesFrame c.set_climbed.result) (sym m) c.set_climbed.ensures) in
    let owes = owed-beside x.world (readings x.customs) S (climb_of k) l c.as_frame.result given in
    let ran = c.held_after.ensures.steps S u.shape u.runs in
    let least = climb-inner x.world (readings x.customs) S k l in
    let long = first-long c.args.set c.args.n in
    omega (arith, long, ran, least, owes)

-- ---- a frame

pub run_frame-run_climb-requires-clause-ready : goal.run_frame-run_climb-requires-clause-ready
run_frame-run_climb-requires-clause-ready g t c κs within =
    let x = c.args.context.now in
    subst (λ s. StepReadyFrom x c.args.root.now s c.args.frame) (ap step_of c.in-Climb.is ∙ step_of-Climb c.in-Climb.climb) c.requires.ready

pub run_frame-run_climb-requires-clause-named : goal.run_frame-run_climb-requires-clause-named
run_frame-run_climb-requires-clause-named g t c κs within =
    let x = c.args.context.now in
    subst (λ s. AreReady x (step_hierarchies s)) (ap step_of c.in-Climb.is ∙ step_of-Climb c.in-Climb.climb) c.requires.named

pub run_frame-returns-in-Climb-clause-mean : goal.run_frame-returns-in-Climb-clause-mean
run_frame-returns-in-Climb-clause-mean g t c = λ S S' R.
    let x = c.args.context.now in
    let l = c.args.frame in
    let e = ap step_of c.in-Climb.is ∙ step_of-Climb c.in-Climb.climb in
    subst (GivesHeld c.run_climb.result) (sym (ap (λ s. step_mean x.world (readings x.customs) S s l) e)) (c.run_climb.ensures.mean S S' (subst (λ s. StepRunsFrom x c.args.root.now S S' s l) e R))

pub run_frame-returns-in-Climb-clause-steps : goal.run_frame-returns-in-Climb-clause-steps
run_frame-returns-in-Climb-clause-steps g t c = λ S S' R.
    let x = c.args.context.now in
    let l = c.args.frame in
    let e = ap step_of c.in-Climb.is ∙ step_of-Climb c.in-Climb.climb in
    let spent = c.run_climb.ensures.steps S S' (subst (λ s. StepRunsFrom x c.args.root.now S S' s l) e R) in
    let whole = ap (λ s. step_cost x.world (readings x.customs) S s l) e in
    omega (arith, spent, whole)

pub run_frame-run_concat-requires-clause-ready : goal.run_frame-run_concat-requires-clause-ready
run_frame-run_concat-requires-clause-ready g t c κs within =
    let x = c.args.context.now in
    subst (λ s. StepReadyFrom x c.args.root.now s c.args.frame) (ap step_of c.in-Concat.is ∙ step_of-Concat c.in-Concat.branches) c.requires.ready

pub run_frame-run_concat-requires-clause-named : goal.run_frame-run_concat-requires-clause-named
run_frame-run_concat-requires-clause-named g t c κs within =
    let x = c.args.context.now in
    subst (λ s. AreReady x (step_hierarchies s)) (ap step_of c.in-Concat.is ∙ step_of-Concat c.in-Concat.branches) c.requires.named

pub run_frame-returns-in-Concat-clause-mean : goal.run_frame-returns-in-Concat-clause-mean
run_frame-returns-in-Concat-clause-mean g t c = λ S S' R.
    let x = c.args.context.now in
    let l = c.args.frame in
    let e = ap step_of c.in-Concat.is ∙ step_of-Concat c.in-Concat.branches in
    subst (GivesHeld c.run_concat.result) (sym (ap (λ s. step_mean x.world (readings x.customs) S s l) e)) (c.run_concat.ensures.mean S S' (subst (λ s. StepRunsFrom x c.args.root.now S S' s l) e R))

pub run_frame-returns-in-Concat-clause-steps : goal.run_frame-returns-in-Concat-clause-steps
run_frame-returns-in-Concat-clause-steps g t c = λ S S' R.
    let x = c.args.context.now in
    let l = c.args.frame in
    let e = ap step_of c.in-Concat.is ∙ step_of-Concat c.in-Concat.branches in
    let spent = c.run_concat.ensures.steps S S' (subst (λ s. StepRunsFrom x c.args.root.now S S' s l) e R) in
    let whole = ap (λ s. step_cost x.world (readings x.customs) S s l) e in
    omega (arith, spent, whole)

pub run_frame-run_join-requires-clause-ready : goal.run_frame-run_join-requires-clause-ready
run_frame-run_join-requires-clause-ready g t c κs within =
    let x = c.args.context.now in
    subst (λ s. StepReadyFrom x c.args.root.now s c.args.frame) (ap step_of c.in-Join.is ∙ step_of-Join c.in-Join.join) c.requires.ready

pub run_frame-run_join-requires-clause-named : goal.run_frame-run_join-requires-clause-named
run_frame-run_join-requires-clause-named g t c κs within =
    let x = c.args.context.now in
    subst (λ s. AreReady x (step_hierarchies s)) (ap step_of c.in-Join.is ∙ step_of-Join c.in-Join.join) c.requires.named

pub run_frame-returns-in-Join-clause-mean : goal.run_frame-returns-in-Join-clause-mean
run_frame-returns-in-Join-clause-mean g t c = λ S S' R.
    let x = c.args.context.now in
    let l = c.args.frame in
    let e = ap step_of c.in-Join.is ∙ step_of-Join c.in-Join.join in
    subst (GivesHeld c.run_join.result) (sym (ap (λ s. step_mean x.world (readings x.customs) S s l) e)) (c.run_join.ensures.mean S S' (subst (λ s. StepRunsFrom x c.args.root.now S S' s l) e R))

pub run_frame-returns-in-Join-clause-steps : goal.run_frame-returns-in-Join-clause-steps
run_frame-returns-in-Join-clause-steps g t c = λ S S' R.
    let x = c.args.context.now in
    let l = c.args.frame in
    let e = ap step_of c.in-Join.is ∙ step_of-Join c.in-Join.join in
    let spent = c.run_join.ensures.steps S S' (subst (λ s. StepRunsFrom x c.args.root.now S S' s l) e R) in
    let whole = ap (λ s. step_cost x.world (readings x.customs) S s l) e in
    omega (arith, spent, whole)

-- ---- a climb

pub run_climb-held_after-requires-clause-ready : goal.run_climb-held_after-requires-clause-ready
run_climb-held_after-requires-clause-ready g t c κs within =
    let x = c.args.context.now in
    let r = c.requires.ready in
    let u = climb-of c.args.climb.now r.2 in
    (r.0, u.shape, subst (RunsFrom x c.args.root.now r.0 u.shape (pipe_of c.args.climb.now.inner)) (sym c.in_ok-copy.ensures.value) u.runs)

pub run_climb-held_after-requires-clause-named : goal.run_climb-held_after-requires-clause-named
run_climb-held_after-requires-clause-named g t c κs within =
    let x = c.args.context.now in
    let k = c.args.climb.now in
    ready-others x (hier_of k.hier) (hierarchies (pipe_of k.inner)) (subst (λ s. AreReady x (step_hierarchies s)) (climb_of-is k) c.requires.named)

pub run_climb-frame_climbed-requires-clause-of : goal.run_climb-frame_climbed-requires-clause-of
run_climb-frame_climbed-requires-clause-of g t c κs within = let r = c.requires.ready in all-fit-of c.args.context.now.world r.0 c.args.frame (r.2).runs.fit

pub run_climb-frame_climbed-requires-clause-starts : goal.run_climb-frame_climbed-requires-clause-starts
run_climb-frame_climbed-requires-clause-starts g t c κs within =
    let x = c.args.context.now in
    let k = c.args.climb.now in
    let r = c.requires.ready in
    let u = climb-of k r.2 in
    let copied = c.in_ok-copy.ensures.value in
    let runs = subst (RunsFrom x c.args.root.now r.0 u.shape (pipe_of k.inner)) (sym copied) u.runs in
    let made = ap (mean x.world (readings x.customs) r.0 (pipe_of k.inner)) (sym copied) ∙ c.in_ok-starts.ensures.mean r.0 u.shape runs in
    u.starts (rows_of c.in_ok-starts.starts) (subst IsLoaded c.store.ensures.value c.data_is_loaded.ensures.value) made

pub run_climb-frame_climbed-requires-clause-there : goal.run_climb-frame_climbed-requires-clause-there
run_climb-frame_climbed-requires-clause-there g t c κs within = (climb-of c.args.climb.now c.requires.ready.2).hierarchy

pub run_climb-frame_climbed-requires-clause-ready : goal.run_climb-frame_climbed-requires-clause-ready
run_climb-frame_climbed-requires-clause-ready g t c κs within =
    let x = c.args.context.now in
    let k = c.args.climb.now in
    ready-first x (hier_of k.hier) (hierarchies (pipe_of k.inner)) (subst (λ s. AreReady x (step_hierarchies s)) (climb_of-is k) c.requires.named)

pub run_climb-returns-in_err-starts-clause-mean : goal.run_climb-returns-in_err-starts-clause-mean
run_climb-returns-in_err-starts-clause-mean g t c = λ S S' R.
    let x = c.args.context.now in
    let k = c.args.climb.now in
    let l = c.args.frame in
    let u = climb-of k R in
    let copied = c.in_ok-copy.ensures.value in
    let runs = subst (RunsFrom x c.args.root.now S u.shape (pipe_of k.inner)) (sym copied) u.runs in
    let p = err_from_is_err_and c.from_residual-in_err-starts.result c.from_residual-in_err-starts.ensures.1 in
    rw (p.1, p.2) (held-refused c.in_err-starts.field-0.0 (mean x.world (readings x.customs) S (pipe_of k.inner) c.in_ok-copy.field-0) (step_mean x.world (readings x.customs) S (climb_of k) l) (c.in_err-starts.ensures.mean S u.shape runs)
    (λ n. climb-means x S k l ∙ u.refused (ap (mean x.world (readings x.customs) S (pipe_of k.inner)) (sym copied) ∙ n)))

pub run_climb-returns-in_err-starts-clause-steps : goal.run_climb-returns-in_err-starts-clause-steps
run_climb-returns-in_err-starts-clause-steps g t c = λ S S' R.
    let x = c.args.context.now in
    let k = c.args.climb.now in
    let l = c.args.frame in
    let u = climb-of k R in
    let same = c.in_ok-copy.ensures.value in
    let runs = subst (RunsFrom x c.args.root.now S u.shape (pipe_of k.inner)) (sym same) u.runs in
    let long = ap length same in
    let ran = c.held_after.ensures.steps S u.shape runs in
    let costs = ap (cost x.world (readings x.customs) S (pipe_of k.inner)) same in
    let least = u.costs in
    let whole = climb-costs x S k l in
    let p = err_from_is_err_and c.from_residual-in_err-starts.result c.from_residual-in_err-starts.ensures.1 in
    rw p.1 (omega (arith, long, ran, costs, least, whole))

pub run_climb-returns-clause-mean : goal.run_climb-returns-clause-mean
run_climb-returns-clause-mean g t c = λ S S' R.
    let x = c.args.context.now in
    let k = c.args.climb.now in
    let l = c.args.frame in
    let u = climb-of k R in
    let copied = c.in_ok-copy.ensures.value in
    let runs = subst (RunsFrom x c.args.root.now S u.shape (pipe_of k.inner)) (sym copied) u.runs in
    let made = ap (mean x.world (readings x.customs) S (pipe_of k.inner)) (sym copied) ∙ c.in_ok-starts.ensures.mean S u.shape runs in
    let m = climb-means x S k l ∙ u.means (rows_of c.in_ok-starts.starts) made in
    c.as_frame.ensures (step_mean x.world (readings x.customs) S (climb_of k) l) (subst (GivesFrame c.frame_climbed.result) (sym m) c.frame_climbed.ensures)

pub run_climb-returns-clause-steps : goal.run_climb-returns-clause-steps
run_climb-returns-clause-steps g t c = λ S S' R.
    let x = c.args.context.now in
    let k = c.args.climb.now in
    let l = c.args.frame in
    let u = climb-of k R in
    let same = c.in_ok-copy.ensures.value in
    let runs = subst (RunsFrom x c.args.root.now S u.shape (pipe_of k.inner)) (sym same) u.runs in
    let made = ap (mean x.world (readings x.customs) S (pipe_of k.inner)) (sym same) ∙ c.in_ok-starts.ensures.mean S u.shape runs in
    let m = climb-means x S k l ∙ u.means (rows_of c.in_ok-starts.starts) made in
    let given = c.as_frame.ensures (step_mean x.world (readings x.customs) S (climb_of k) l) (subst (GivesFrame c.frame_climbed.result) (sym m) c.frame_climbed.ensures) in
    let owes = owed-beside x.world (readings x.customs) S (climb_of k) l c.as_frame.result given in
    let long = ap length same in
    let ran = c.held_after.ensures.steps S u.shape runs in
    let costs = ap (cost x.world (readings x.customs) S (pipe_of k.inner)) same in
    let least = climb-inner x.world (readings x.customs) S k l in
    omega (arith, long, ran, costs, least, owes)

-- ---- a concatenation

pub run_concat-run_branches-requires-clause-ready : goal.run_concat-run_branches-requires-clause-ready
run_concat-run_branches-requires-clause-ready g t c κs within =
    subst (λ bs. BranchesReady c.args.context.now c.args.root.now (map pipe_of bs) c.args.frame) (sym c.as_slice.ensures.value) c.branches_ready.ensures

pub run_concat-run_branches-requires-clause-named : goal.run_concat-run_branches-requires-clause-named
run_concat-run_branches-requires-clause-named g t c κs within =
    subst (λ bs. (n : ℕ) (p : tree.Pipe) → slice_get (map pipe_of bs) n ≡ Some p → AreReady c.args.context.now (hierarchies p)) (sym c.as_slice.ensures.value)
    (ready-branch c.args.context.now (map pipe_of (pipes_in c.args.branches.now)) (subst (λ ps. AreReady c.args.context.now (branch_hierarchies ps)) (pipes_of-is c.args.branches.now) c.requires.named))

pub run_concat-returns-clause-mean : goal.run_concat-returns-clause-mean
run_concat-returns-clause-mean g t c = λ S S' R.
    let u = concat-run c.args.branches.now c.as_slice.result.now c.as_slice.ensures.value R in
    subst (GivesHeld c.run_branches.result) (sym u.means) (c.run_branches.ensures.mean S u.runs)

pub run_concat-returns-clause-steps : goal.run_concat-returns-clause-steps
run_concat-returns-clause-steps g t c = λ S S' R.
    let u = concat-run c.args.branches.now c.as_slice.result.now c.as_slice.ensures.value R in
    let spent = c.run_branches.ensures.steps S u.runs in
    let least = u.costs in
    omega (arith, spent, least)

-- ---- the branches

pub run_branches-held_after-requires-clause-ready : goal.run_branches-held_after-requires-clause-ready
run_branches-held_after-requires-clause-ready g t c κs within =
    subst (λ l. ReadyFrom c.args.context.now c.args.root.now (pipe_of c.index-branches-k.result) l) (sym c.in_ok-copy.ensures.value) c.branch_ready.ensures

pub run_branches-held_after-requires-clause-named : goal.run_branches-held_after-requires-clause-named
run_branches-held_after-requires-clause-named g t c κs within =
    c.requires.named c.loop-k.k (pipe_of c.index-branches-k.result) (branch-at c.args.branches.now c.loop-k.k c.index-branches-k.result c.loop-k-test.true c.index-branches-k.is)

pub run_branches-returns-in_err-made-clause-mean : goal.run_branches-returns-in_err-made-clause-mean
run_branches-returns-in_err-made-clause-mean g t c = λ S R.
    let x = c.args.context.now in
    let u = branch-turn x c.args.root.now S c.args.branches.now c.args.frame.now c.in_ok-copy.field-0 c.loop-k.k c.index-branches-k.result R c.loop-k-test.true c.index-branches-k.is c.in_ok-copy.ensures.value in
    let p = err_from_is_err_and c.from_residual-in_err-made.result c.from_residual-in_err-made.ensures.1 in
    rw (p.1, p.2) (held-refused c.in_err-made.field-0.0 _ _ (c.in_err-made.ensures.mean S u.shape u.runs)
    (λ n. next-refused (λ p. mean x.world (readings x.customs) S p c.args.frame.now) (map pipe_of c.args.branches.now) c.loop-k.k (pipe_of c.index-branches-k.result) (rows_of c.loop-k.all) _ u.within u.here (c.loop-k.invariant.1 S R).0 (u.means ∙ n)))

pub run_branches-returns-in_err-made-clause-steps : goal.run_branches-returns-in_err-made-clause-steps
run_branches-returns-in_err-made-clause-steps g t c = λ S R.
    let u = branch-turn c.args.context.now c.args.root.now S c.args.branches.now c.args.frame.now c.in_ok-copy.field-0 c.loop-k.k c.index-branches-k.result R c.loop-k-test.true c.index-branches-k.is c.in_ok-copy.ensures.value in
    let ran = c.held_after.ensures.steps S u.shape u.runs in
    let left = (c.loop-k.invariant.1 S R).1 in
    let next = u.costs in
    let long = ap length c.in_ok-copy.ensures.value in
    let p = err_from_is_err_and c.from_residual-in_err-made.result c.from_residual-in_err-made.ensures.1 in
    rw p.1 (omega (arith, left, next, long, ran))

pub run_branches-returns-in_err-copy-clause-steps : goal.run_branches-returns-in_err-copy-clause-steps
run_branches-returns-in_err-copy-clause-steps g t c = λ S R.
    let left = (c.loop-k.invariant.1 S R).1 in
    let p = err_from_is_err_and c.from_residual.result c.from_residual.ensures.1 in
    rw p.1 (omega (arith, left))

pub run_branches-returns-in_err-all-clause-steps : goal.run_branches-returns-in_err-all-clause-steps
run_branches-returns-in_err-all-clause-steps g t c = λ S R.
    let u = branch-turn c.args.context.now c.args.root.now S c.args.branches.now c.args.frame.now c.in_ok-copy.field-0 c.loop-k.k c.index-branches-k.result R c.loop-k-test.true c.index-branches-k.is c.in_ok-copy.ensures.value in
    let ran = c.in_ok-made.ensures.steps S u.shape u.runs in
    let left = (c.loop-k.invariant.1 S R).1 in
    let next = u.costs in
    let long = ap length c.in_ok-copy.ensures.value in
    let both = c.joined_held.ensures.steps in
    let p = err_from_is_err_and c.from_residual-in_err-all.result c.from_residual-in_err-all.ensures.1 in
    rw p.1 (omega (arith, left, next, long, ran, both))

pub run_branches-loop-k-init : goal.run_branches-loop-k-init
run_branches-loop-k-init g t c = (
  omega arith,
  λ S R. (
    begun _ ∙ ap (λ l. option_map (λ rest. l ++ rest) (joined (map (λ p. mean c.args.context.now.world (readings c.args.context.now.customs) S p c.args.frame.now) (map pipe_of c.args.branches.now)))) (sym c.none.ensures.value),
    let nothing = ap length c.none.ensures.value in omega (arith, nothing),
  ),
)

pub run_branches-loop-k-preserved : goal.run_branches-loop-k-preserved
run_branches-loop-k-preserved g t c = (
  omega (arith, c.held_after.ensures.grown, c.joined_held.ensures.grown, c.loop-k.invariant.0),
  λ S R.
      let x = c.args.context.now in
      let f : Pipe → Outcome = λ p. mean x.world (readings x.customs) S p c.args.frame.now in
      let u = branch-turn x c.args.root.now S c.args.branches.now c.args.frame.now c.in_ok-copy.field-0 c.loop-k.k c.index-branches-k.result R c.loop-k-test.true c.index-branches-k.is c.in_ok-copy.ensures.value in
      let inv = c.loop-k.invariant.1 S R in
      let ran = c.in_ok-made.ensures.steps S u.shape u.runs in
      let left = inv.1 in
      let next = u.costs in
      let long = ap length c.in_ok-copy.ensures.value in
      let joined_steps = c.in_ok-all.ensures.steps in (
        next-joined f (map pipe_of c.args.branches.now) c.loop-k.k (pipe_of c.index-branches-k.result) (rows_of c.loop-k.all) _ (rows_of c.in_ok-made.made) u.within u.here inv.0 (u.means ∙ c.in_ok-made.ensures.mean S u.shape u.runs)
            ∙ ap (λ xs. option_map (λ rest. xs ++ rest) (joined (map f (drop (c.loop-k.k + 1) (map pipe_of c.args.branches.now))))) (sym c.in_ok-all.ensures.rows),
        omega (arith, left, next, long, ran, joined_steps),
      ),
)

pub run_branches-returns-clause-mean : goal.run_branches-returns-clause-mean
run_branches-returns-clause-mean g t c = λ S R.
    let x = c.args.context.now in
    let size = length-map c.args.branches.now pipe_of in
    last-joined (λ p. mean x.world (readings x.customs) S p c.args.frame.now) (map pipe_of c.args.branches.now) c.loop-k.k (rows_of c.loop-k.all) _ (omega (arith, c.loop-k-test.false, size)) (c.loop-k.invariant.1 S R).0

pub run_branches-returns-clause-steps : goal.run_branches-returns-clause-steps
run_branches-returns-clause-steps g t c = λ S R.
    let left = (c.loop-k.invariant.1 S R).1 in
    omega (arith, left)

-- ---- a join

pub run_join-run_joined-requires-clause-ready : goal.run_join-run_joined-requires-clause-ready
run_join-run_joined-requires-clause-ready g t c κs within = subst (λ s. StepReadyFrom c.args.context.now c.args.root.now s c.args.frame) (join_of-is c.args.join.now) c.requires.ready

pub run_join-run_joined-requires-clause-named : goal.run_join-run_joined-requires-clause-named
run_join-run_joined-requires-clause-named g t c κs within = subst (λ s. AreReady c.args.context.now (step_hierarchies s)) (join_of-is c.args.join.now) c.requires.named

pub run_join-returns-clause-mean : goal.run_join-returns-clause-mean
run_join-returns-clause-mean g t c = λ S S' R.
    let x = c.args.context.now in
    let e = join_of-is c.args.join.now in
    subst (λ s. GivesHeld c.run_joined.result (step_mean x.world (readings x.customs) S s c.args.frame)) (sym e) (c.run_joined.ensures.mean S S' (subst (λ s. StepRunsFrom x c.args.root.now S S' s c.args.frame) e R))

pub run_join-returns-clause-steps : goal.run_join-returns-clause-steps
run_join-returns-clause-steps g t c = λ S S' R.
    let x = c.args.context.now in
    let e = join_of-is c.args.join.now in
    let spent = c.run_joined.ensures.steps S S' (subst (λ s. StepRunsFrom x c.args.root.now S S' s c.args.frame) e R) in
    let whole = ap (λ s. step_cost x.world (readings x.customs) S s c.args.frame) e in
    omega (arith, spent, whole)

pub run_join-returns-clause-grown : goal.run_join-returns-clause-grown
run_join-returns-clause-grown g t c = omega (arith, c.run_joined.ensures.grown)

-- ---- a join of parts

pub run_joined-run_related-requires-clause-many : goal.run_joined-run_related-requires-clause-many
run_joined-run_related-requires-clause-many g t c κs within = λ v h.
    let u = join-run c.join_navigation-found.result c.requires.ready.2 c.join_navigation-found.ensures.value c.related_ready.ensures in
    ap (λ (v : Navigation). v.many) (some_value (sym h ∙ u.at)) ∙ u.many

pub run_joined-returns-in_err-results-clause-mean : goal.run_joined-returns-in_err-results-clause-mean
run_joined-returns-in_err-results-clause-mean g t c = λ S S' R.
    let u = join-run c.join_navigation-found.result R c.join_navigation-found.ensures.value c.related_ready.ensures in
    let p = err_from_is_err_and c.from_residual.result c.from_residual.ensures.1 in
    let x = c.args.context.now in
    let os = map (related_mean x.world (readings x.customs) u.navigation (inner_of (option_map pipe_of c.args.inner.now))) c.args.frame in
    rw (p.1, p.2) (join-refused c.in_err-results.field-0.0 os (bound_rows c.args.outer c.args.alias.now c.args.frame) _ u.means (c.in_err-results.ensures.mean u.navigation u.shape u.at u.runs))

pub run_joined-returns-in_err-results-clause-steps : goal.run_joined-returns-in_err-results-clause-steps
run_joined-returns-in_err-results-clause-steps g t c = λ S S' R.
    let u = join-run c.join_navigation-found.result R c.join_navigation-found.ensures.value c.related_ready.ensures in
    let ran = c.run_related.ensures.steps u.navigation u.shape u.at u.runs in
    let whole = u.costs in
    let p = err_from_is_err_and c.from_residual.result c.from_residual.ensures.1 in
    rw p.1 (omega (arith, ran, whole))

pub run_joined-returns-in_err-results-clause-grown : goal.run_joined-returns-in_err-results-clause-grown
run_joined-returns-in_err-results-clause-grown g t c = omega (arith, c.run_related.ensures.grown)

pub run_joined-joined_lists-requires-clause-lists : goal.run_joined-joined_lists-requires-clause-lists
run_joined-joined_lists-requires-clause-lists g t c =
    let u = join-run c.join_navigation-found.result c.requires.ready.2 c.join_navigation-found.ensures.value c.related_ready.ensures in
    let x = c.args.context.now in
    results-long (related_mean x.world (readings x.customs) u.navigation (inner_of (option_map pipe_of c.args.inner.now))) c.args.frame c.in_ok-results.results.items (c.in_ok-results.ensures.mean u.navigation u.shape u.at u.runs)

pub run_joined-returns-in_err-joined_lists-clause-steps : goal.run_joined-returns-in_err-joined_lists-clause-steps
run_joined-returns-in_err-joined_lists-clause-steps g t c = λ S S' R.
    let u = join-run c.join_navigation-found.result R c.join_navigation-found.ensures.value c.related_ready.ensures in
    let ran = c.in_ok-results.ensures.steps u.navigation u.shape u.at u.runs in
    let made = u.means ∙ ap (option_map (bound_rows c.args.outer c.args.alias.now c.args.frame)) (c.in_ok-results.ensures.mean u.navigation u.shape u.at u.runs) in
    let rows = ap result_length made in
    let spent = c.joined_lists.ensures.steps in
    let whole = u.costs in
    let p = err_from_is_err_and c.from_residual-in_err-joined_lists.result c.from_residual-in_err-joined_lists.ensures.1 in
    rw p.1 (omega (arith, ran, spent, rows, whole))

pub run_joined-returns-in_err-joined_lists-clause-grown : goal.run_joined-returns-in_err-joined_lists-clause-grown
run_joined-returns-in_err-joined_lists-clause-grown g t c = omega (arith, c.run_related.ensures.grown, c.joined_lists.ensures.grown)

pub run_joined-returns-clause-mean : goal.run_joined-returns-clause-mean
run_joined-returns-clause-mean g t c = λ S S' R.
    let u = join-run c.join_navigation-found.result R c.join_navigation-found.ensures.value c.related_ready.ensures in
    u.means ∙ ap (option_map (bound_rows c.args.outer c.args.alias.now c.args.frame)) (c.in_ok-results.ensures.mean u.navigation u.shape u.at u.runs) ∙ ap Some (sym c.in_ok-joined_lists.ensures.rows)

pub run_joined-returns-clause-steps : goal.run_joined-returns-clause-steps
run_joined-returns-clause-steps g t c = λ S S' R.
    let u = join-run c.join_navigation-found.result R c.join_navigation-found.ensures.value c.related_ready.ensures in
    let ran = c.in_ok-results.ensures.steps u.navigation u.shape u.at u.runs in
    let made = u.means ∙ ap (option_map (bound_rows c.args.outer c.args.alias.now c.args.frame)) (c.in_ok-results.ensures.mean u.navigation u.shape u.at u.runs) in
    let rows = ap result_length made in
    let spent = c.in_ok-joined_lists.ensures.steps in
    let whole = u.costs in
    omega (arith, ran, spent, rows, whole)

pub run_joined-returns-clause-grown : goal.run_joined-returns-clause-grown
run_joined-returns-clause-grown g t c = omega (arith, c.run_related.ensures.grown, c.joined_lists.ensures.grown)

-- ---- what is related to each instance

pub run_related-returns-in_err-related-clause-steps : goal.run_related-returns-in_err-related-clause-steps
run_related-returns-in_err-related-clause-steps g t c = λ v T' h R.
    let x = c.args.context.now in
    let T = inner_of (option_map pipe_of c.args.inner.now) in
    let left = (c.loop-k.invariant.1 v T' h R).1 in
    let total = related-least x.world (readings x.customs) v T c.args.frame.now in
    let p = err_from_is_err_and c.from_residual-in_err-related.result c.from_residual-in_err-related.ensures.1 in
    rw p.1 (omega (arith, left, total))

pub run_related-returns-in_err-related-clause-grown : goal.run_related-returns-in_err-related-clause-grown
run_related-returns-in_err-related-clause-grown g t c = omega (arith, c.loop-k.invariant.0)

pub run_related-returns-in_err-run_inner-clause-mean : goal.run_related-returns-in_err-run_inner-clause-mean
run_related-returns-in_err-run_inner-clause-mean g t c = λ v T' h R.
    let x = c.args.context.now in
    let T = inner_of (option_map pipe_of c.args.inner.now) in
    let l = c.args.frame.now in
    let row = get_or l c.loop-k.k no_instance in
    let less : c.loop-k.k < length l = omega (arith, c.loop-k-test.true) in
    let own = get_or_default l c.loop-k.k no_instance row less in
    let target = some_value (sym (ap (option_map (λ (v : Navigation). v.target)) h) ∙ c.target_type-target.ensures) in
    let u = related-turn x v T' T l c.loop-k.k row c.in_ok-related.related _ R less own (c.in_ok-related.ensures v h) target in
    let p = err_from_is_err_and c.from_residual-in_err-run_inner.result c.from_residual-in_err-run_inner.ensures.1 in
    rw (p.1, p.2) (lists-refused c.in_err-run_inner.field-0.0 _ (map (related_mean x.world (readings x.customs) v T) l) (c.in_err-run_inner.ensures.mean (set_shape v.target) T' u.runs)
    (λ n. next-list_refused (related_mean x.world (readings x.customs) v T) l c.loop-k.k row _ _ less own (c.loop-k.invariant.1 v T' h R).0 (u.means ∙ n)))

pub run_related-returns-in_err-run_inner-clause-steps : goal.run_related-returns-in_err-run_inner-clause-steps
run_related-returns-in_err-run_inner-clause-steps g t c = λ v T' h R.
    let x = c.args.context.now in
    let T = inner_of (option_map pipe_of c.args.inner.now) in
    let l = c.args.frame.now in
    let row = get_or l c.loop-k.k no_instance in
    let less : c.loop-k.k < length l = omega (arith, c.loop-k-test.true) in
    let own = get_or_default l c.loop-k.k no_instance row less in
    let target = some_value (sym (ap (option_map (λ (v : Navigation). v.target)) h) ∙ c.target_type-target.ensures) in
    let u = related-turn x v T' T l c.loop-k.k row c.in_ok-related.related _ R less own (c.in_ok-related.ensures v h) target in
    let ran = c.run_inner.ensures.steps (set_shape v.target) T' u.runs in
    let left = (c.loop-k.invariant.1 v T' h R).1 in
    let next = u.costs in
    let long = ap length (c.in_ok-related.ensures v h) in
    let total = related-least x.world (readings x.customs) v T l in
    let p = err_from_is_err_and c.from_residual-in_err-run_inner.result c.from_residual-in_err-run_inner.ensures.1 in
    rw p.1 (omega (arith, left, next, total, long, ran))

pub run_related-returns-in_err-run_inner-clause-grown : goal.run_related-returns-in_err-run_inner-clause-grown
run_related-returns-in_err-run_inner-clause-grown g t c = omega (arith, c.run_inner.ensures.grown, c.loop-k.invariant.0)

pub run_related-returns-in_err-push-clause-steps : goal.run_related-returns-in_err-push-clause-steps
run_related-returns-in_err-push-clause-steps g t c = λ v T' h R.
    let x = c.args.context.now in
    let T = inner_of (option_map pipe_of c.args.inner.now) in
    let l = c.args.frame.now in
    let row = get_or l c.loop-k.k no_instance in
    let less : c.loop-k.k < length l = omega (arith, c.loop-k-test.true) in
    let own = get_or_default l c.loop-k.k no_instance row less in
    let target = some_value (sym (ap (option_map (λ (v : Navigation). v.target)) h) ∙ c.target_type-target.ensures) in
    let u = related-turn x v T' T l c.loop-k.k row c.in_ok-related.related _ R less own (c.in_ok-related.ensures v h) target in
    let ran = c.in_ok-run_inner.ensures.steps (set_shape v.target) T' u.runs in
    let left = (c.loop-k.invariant.1 v T' h R).1 in
    let next = u.costs in
    let long = ap length (c.in_ok-related.ensures v h) in
    let total = related-least x.world (readings x.customs) v T l in
    let p = err_from_is_err_and c.from_residual-in_err-push.result c.from_residual-in_err-push.ensures.1 in
    rw p.1 (omega (arith, left, next, total, long, ran))

pub run_related-returns-in_err-push-clause-grown : goal.run_related-returns-in_err-push-clause-grown
run_related-returns-in_err-push-clause-grown g t c = omega (arith, c.run_inner.ensures.grown, c.loop-k.invariant.0)

pub run_related-loop-k-preserved : goal.run_related-loop-k-preserved
run_related-loop-k-preserved g t c = (
  omega (arith, c.run_inner.ensures.grown, c.loop-k.invariant.0),
  λ v T' h R.
      let x = c.args.context.now in
      let T = inner_of (option_map pipe_of c.args.inner.now) in
      let l = c.args.frame.now in
      let row = get_or l c.loop-k.k no_instance in
      let less : c.loop-k.k < length l = omega (arith, c.loop-k-test.true) in
      let own = get_or_default l c.loop-k.k no_instance row less in
      let target = some_value (sym (ap (option_map (λ (v : Navigation). v.target)) h) ∙ c.target_type-target.ensures) in
      let u = related-turn x v T' T l c.loop-k.k row c.in_ok-related.related _ R less own (c.in_ok-related.ensures v h) target in
      let f = related_mean x.world (readings x.customs) v T in
      let made = c.in_ok-run_inner.field-0 in
      let ran = c.in_ok-run_inner.ensures.steps (set_shape v.target) T' u.runs in
      let left = (c.loop-k.invariant.1 v T' h R).1 in
      let next = u.costs in
      let long = ap length (c.in_ok-related.ensures v h) in
      let owes = more-owed c.loop-k.all.items c.push.new.self.items made c.in_ok-push.ensures.items in (
        next-list f l c.loop-k.k row _ _ (rows_of made) less own (c.loop-k.invariant.1 v T' h R).0 (u.means ∙ c.in_ok-run_inner.ensures.mean (set_shape v.target) T' u.runs)
            ∙ ap (λ a. option_map (λ rest. a ++ rest) (all_some (map f (drop (c.loop-k.k + 1) l)))) (sym (more-rows c.loop-k.all.items c.push.new.self.items made c.in_ok-push.ensures.items)),
        omega (arith, left, next, long, ran, owes),
      ),
)

pub run_related-returns-clause-mean : goal.run_related-returns-clause-mean
run_related-returns-clause-mean g t c = λ v T' h R.
    let x = c.args.context.now in
    let T = inner_of (option_map pipe_of c.args.inner.now) in
    last-list (related_mean x.world (readings x.customs) v T) c.args.frame.now c.loop-k.k _ _ (omega (arith, c.loop-k-test.false)) (c.loop-k.invariant.1 v T' h R).0

pub run_related-returns-clause-steps : goal.run_related-returns-clause-steps
run_related-returns-clause-steps g t c = λ v T' h R.
    let x = c.args.context.now in
    let left = (c.loop-k.invariant.1 v T' h R).1 in
    let total = related-least x.world (readings x.customs) v (inner_of (option_map pipe_of c.args.inner.now)) c.args.frame.now in
    omega (arith, left, total)

pub run_related-returns-clause-grown : goal.run_related-returns-clause-grown
run_related-returns-clause-grown g t c = omega (arith, c.loop-k.invariant.0)

-- ---- an inner pipeline

pub run_inner-returns-in-Some-clause-mean : goal.run_inner-returns-in-Some-clause-mean
run_inner-returns-in-Some-clause-mean g t c = λ S S' R.
    let x = c.args.context.now in
    let l = c.args.frame in
    let e = ap (λ o. inner_of (option_map pipe_of o)) c.in-Some.is in
    subst (GivesHeld c.held_after.result) (sym (inner_mean-SomePipe x.world (readings x.customs) S (λ r. Some r) (pipe_of c.in-Some.pipe) l) ∙ ap (λ T. inner_mean x.world (readings x.customs) S (λ r. Some r) T l) (sym e))
    (c.held_after.ensures.mean S S' (subst (λ T. InnerRuns x c.args.root.now S S' T l) e R))

pub run_inner-returns-in-Some-clause-steps : goal.run_inner-returns-in-Some-clause-steps
run_inner-returns-in-Some-clause-steps g t c = λ S S' R.
    let x = c.args.context.now in
    let l = c.args.frame in
    let e = ap (λ o. inner_of (option_map pipe_of o)) c.in-Some.is in
    let spent = c.held_after.ensures.steps S S' (subst (λ T. InnerRuns x c.args.root.now S S' T l) e R) in
    let whole = ap (λ T. inner_cost x.world (readings x.customs) S T l) e in
    omega (arith, spent, whole)

pub run_inner-returns-in-Some-clause-grown : goal.run_inner-returns-in-Some-clause-grown
run_inner-returns-in-Some-clause-grown g t c = omega (arith, c.held_after.ensures.grown)

pub run_inner-returns-in-None-clause-mean : goal.run_inner-returns-in-None-clause-mean
run_inner-returns-in-None-clause-mean g t c = λ S S' R.
    let x = c.args.context.now in
    let l = c.args.frame in
    ap (λ o. inner_mean x.world (readings x.customs) S (λ r. Some r) (inner_of (option_map pipe_of o)) l) c.in-None.is ∙ inner_mean-NoPipe x.world (readings x.customs) S (λ r. Some r) l

pub run_inner-held_after-requires-clause-named : goal.run_inner-held_after-requires-clause-named
run_inner-held_after-requires-clause-named g t c κs within = subst (λ o. AreReady c.args.context.now (inner_hierarchies (inner_of (option_map pipe_of o)))) c.in-Some.is c.requires.named

-- ---- a grouping

pub run_frame-returns-in-GroupBy-clause-mean : goal.run_frame-returns-in-GroupBy-clause-mean
run_frame-returns-in-GroupBy-clause-mean g t c = c.run_grouped.ensures.mean

pub run_frame-returns-in-GroupBy-clause-steps : goal.run_frame-returns-in-GroupBy-clause-steps
run_frame-returns-in-GroupBy-clause-steps g t c = λ S S' R.
    let spent = c.run_grouped.ensures.steps S S' R in
    omega (arith, spent)

pub run_grouped-returns-in_err-made-clause-mean : goal.run_grouped-returns-in_err-made-clause-mean
run_grouped-returns-in_err-made-clause-mean g t c = λ S S' R.
    let p = err_from_is_err_and c.from_residual.result c.from_residual.ensures.1 in
    rw (p.1, p.2) (found-refused c.in_err-made.field-0.0 _ _ (c.in_err-made.ensures.mean S S' R) (λ n. n))

pub run_grouped-returns-in-Some-clause-mean : goal.run_grouped-returns-in-Some-clause-mean
run_grouped-returns-in-Some-clause-mean g t c = λ S S' R.
    let x = c.args.context.now in
    let m = step_mean x.world (readings x.customs) S (step_of c.args.step.now) c.args.frame.now in
    c.held_groups.ensures.gives m (subst (λ o. IfSome o (λ f. m ≡ Some f)) c.in-Some.is (c.in_ok-made.ensures.mean S S' R))

pub run_grouped-returns-in-Some-clause-steps : goal.run_grouped-returns-in-Some-clause-steps
run_grouped-returns-in-Some-clause-steps g t c = λ S S' R.
    let x = c.args.context.now in
    let s = step_of c.args.step.now in
    let m = step_mean x.world (readings x.customs) S s c.args.frame.now in
    let least = made-least x.world (readings x.customs) S s c.args.frame.now c.in-Some.made (subst (λ o. IfSome o (λ f. m ≡ Some f)) c.in-Some.is (c.in_ok-made.ensures.mean S S' R)) in
    let spent = c.held_groups.ensures.steps in
    omega (arith, least, spent)

pub run_grouped-run_by_groups-requires-clause-ready : goal.run_grouped-run_by_groups-requires-clause-ready
run_grouped-run_by_groups-requires-clause-ready g t c κs within =
    ready-same c.args.context.now c.args.root.now _ _ _ _ refl (sym c.of_frame-list.ensures.value) c.requires.ready

pub run_grouped-run_by_groups-requires-clause-named : goal.run_grouped-run_by_groups-requires-clause-named
run_grouped-run_by_groups-requires-clause-named g t c κs within = c.requires.named

pub run_grouped-returns-in-None-clause-mean : goal.run_grouped-returns-in-None-clause-mean
run_grouped-returns-in-None-clause-mean g t c = λ S S' R.
    let x = c.args.context.now in
    c.as_held.ensures.gives (step_mean x.world (readings x.customs) S (step_of c.args.step.now) c.args.frame.now)
    (gives-same c.run_by_groups.result refl (sym c.of_frame-list.ensures.value) R (c.run_by_groups.ensures.mean S S'))

pub run_grouped-returns-in-None-clause-steps : goal.run_grouped-returns-in-None-clause-steps
run_grouped-returns-in-None-clause-steps g t c = λ S S' R.
    let x = c.args.context.now in
    let s = step_of c.args.step.now in
    let rows : c.args.frame.now ≡ c.of_frame-list.result = sym c.of_frame-list.ensures.value in
    let spent = c.run_by_groups.ensures.steps S S' (runs-same x c.args.root.now S S' s s c.args.frame.now c.of_frame-list.result refl rows R) in
    let whole = cost-same x S s s c.args.frame.now c.of_frame-list.result refl rows in
    omega (arith, spent, whole, c.as_held.ensures.owed)

pub run_grouped-returns-in-None-clause-grown : goal.run_grouped-returns-in-None-clause-grown
run_grouped-returns-in-None-clause-grown g t c = omega (arith, c.run_by_groups.ensures.grown)

-- ---- the groups of each level

pub run_by_groups-run_by_levels-requires-clause-ready : goal.run_by_groups-run_by_levels-requires-clause-ready
run_by_groups-run_by_levels-requires-clause-ready g t c κs within =
    let e = ap step_of c.in-GroupBy.is ∙ step_of-GroupBy c.in-GroupBy.keys c.in-GroupBy.inner ∙ ap (λ o. tree.Step.GroupBy (keys_of c.in-GroupBy.keys) (inner_of (option_map pipe_of o))) c.in-Some.is in
    subst (λ s. StepReadyFrom c.args.context.now c.args.root.now s c.args.rows.now) e c.requires.ready

pub run_by_groups-run_by_levels-requires-clause-named : goal.run_by_groups-run_by_levels-requires-clause-named
run_by_groups-run_by_levels-requires-clause-named g t c κs within =
    let e = ap step_of c.in-GroupBy.is ∙ step_of-GroupBy c.in-GroupBy.keys c.in-GroupBy.inner ∙ ap (λ o. tree.Step.GroupBy (keys_of c.in-GroupBy.keys) (inner_of (option_map pipe_of o))) c.in-Some.is in
    subst (λ s. AreReady c.args.context.now (step_hierarchies s)) e c.requires.named

pub run_by_groups-returns-else-begins_with_values-clause-mean : goal.run_by_groups-returns-else-begins_with_values-clause-mean
run_by_groups-returns-else-begins_with_values-clause-mean g t c = λ S S' R.
    let x = c.args.context.now in
    let e = ap step_of c.in-GroupBy.is ∙ step_of-GroupBy c.in-GroupBy.keys c.in-GroupBy.inner ∙ ap (λ o. tree.Step.GroupBy (keys_of c.in-GroupBy.keys) (inner_of (option_map pipe_of o))) c.in-Some.is in
    subst (Gives c.run_by_levels.result) (sym (step-mean-on x S {l = c.args.rows.now} e refl)) (c.run_by_levels.ensures.mean S S' (step-runs-on e refl R))

pub run_by_groups-returns-else-begins_with_values-clause-steps : goal.run_by_groups-returns-else-begins_with_values-clause-steps
run_by_groups-returns-else-begins_with_values-clause-steps g t c = λ S S' R.
    let x = c.args.context.now in
    let e = ap step_of c.in-GroupBy.is ∙ step_of-GroupBy c.in-GroupBy.keys c.in-GroupBy.inner ∙ ap (λ o. tree.Step.GroupBy (keys_of c.in-GroupBy.keys) (inner_of (option_map pipe_of o))) c.in-Some.is in
    let spent = c.run_by_levels.ensures.steps S S' (step-runs-on e refl R) in
    let whole = step-cost-on x S {l = c.args.rows.now} e refl in
    omega (arith, spent, whole)

pub run_by_levels-grouping_levels-requires-clause-of : goal.run_by_levels-grouping_levels-requires-clause-of
run_by_levels-grouping_levels-requires-clause-of g t c κs within =
    let r = c.requires.ready in
    all-fit-of c.args.context.now.world r.0 c.args.rows.now (r.2).runs.fit

pub run_by_levels-grouping_levels-requires-clause-all : goal.run_by_levels-grouping_levels-requires-clause-all
run_by_levels-grouping_levels-requires-clause-all g t c κs within = c.as_slice-paths.ensures.value ∙ c.in_ok-paths.ensures.value

pub run_by_levels-grouping_levels-requires-clause-ready : goal.run_by_levels-grouping_levels-requires-clause-ready
run_by_levels-grouping_levels-requires-clause-ready g t c κs within =
    let r = c.requires.ready in
    keys-ready c.args.context.now c.args.root.now r.0 r.1 (keys_of c.args.keys.now) (tree.OptPipe.SomePipe (pipe_of c.args.pipe.now)) c.args.rows.now r.2

pub run_by_levels-grouping_levels-requires-clause-named : goal.run_by_levels-grouping_levels-requires-clause-named
run_by_levels-grouping_levels-requires-clause-named g t c κs within =
    ready-front c.args.context.now (keys_hierarchies (keys_of c.args.keys.now)) (inner_hierarchies (tree.OptPipe.SomePipe (pipe_of c.args.pipe.now))) c.requires.named

pub run_by_levels-returns-in_err-levels-clause-mean : goal.run_by_levels-returns-in_err-levels-clause-mean
run_by_levels-returns-in_err-levels-clause-mean g t c = λ S S' R.
    let x = c.args.context.now in
    let T = tree.OptPipe.SomePipe (pipe_of c.args.pipe.now) in
    let p = err_from_is_err_and c.from_residual-in_err-levels.result c.from_residual-in_err-levels.ensures.1 in
    rw (p.1, p.2) (levels-err x.world (readings x.customs) S (keys_of c.args.keys.now) T c.args.rows.now c.in_err-levels.field-0.0 c.in_err-levels.ensures.levels)

pub run_by_levels-returns-in_err-levels-clause-steps : goal.run_by_levels-returns-in_err-levels-clause-steps
run_by_levels-returns-in_err-levels-clause-steps g t c = λ S S' R.
    let x = c.args.context.now in
    let spent = c.grouping_levels.ensures.steps in
    let least = keys-least x.world (readings x.customs) S (keys_of c.args.keys.now) (tree.OptPipe.SomePipe (pipe_of c.args.pipe.now)) c.args.rows.now in
    omega (arith, spent, least)

pub run_by_levels-returns-in_err-levels-clause-grown : goal.run_by_levels-returns-in_err-levels-clause-grown
run_by_levels-returns-in_err-levels-clause-grown g t c = omega (arith, c.grouping_levels.ensures.grown)

pub run_by_levels-run_levels-requires-clause-ready : goal.run_by_levels-run_levels-requires-clause-ready
run_by_levels-run_levels-requires-clause-ready g t c κs within =
    let r = c.requires.ready in
    let u = grouping-run c.in_ok-levels.levels (subst IsLoaded c.store.ensures.value c.data_is_loaded.ensures.value) c.in_ok-levels.ensures.levels c.as_slice.ensures.value r.2 in
    (r.0, u.shape, u.runs)

pub run_by_levels-run_levels-requires-clause-named : goal.run_by_levels-run_levels-requires-clause-named
run_by_levels-run_levels-requires-clause-named g t c κs within =
    ready-back c.args.context.now (keys_hierarchies (keys_of c.args.keys.now)) (inner_hierarchies (tree.OptPipe.SomePipe (pipe_of c.args.pipe.now))) c.requires.named

pub run_by_levels-returns-clause-mean : goal.run_by_levels-returns-clause-mean
run_by_levels-returns-clause-mean g t c = λ S S' R.
    let u = grouping-run c.in_ok-levels.levels (subst IsLoaded c.store.ensures.value c.data_is_loaded.ensures.value) c.in_ok-levels.ensures.levels c.as_slice.ensures.value R in
    subst (Gives c.run_levels.result) (sym u.means) (c.run_levels.ensures.mean S u.shape u.runs)

pub run_by_levels-returns-clause-steps : goal.run_by_levels-returns-clause-steps
run_by_levels-returns-clause-steps g t c = λ S S' R.
    let u = grouping-run c.in_ok-levels.levels (subst IsLoaded c.store.ensures.value c.data_is_loaded.ensures.value) c.in_ok-levels.ensures.levels c.as_slice.ensures.value R in
    let found = c.grouping_levels.ensures.steps in
    let spent = c.run_levels.ensures.steps S u.shape u.runs in
    let least = u.costs in
    omega (arith, found, spent, least)

pub run_by_levels-returns-clause-grown : goal.run_by_levels-returns-clause-grown
run_by_levels-returns-clause-grown g t c = omega (arith, c.grouping_levels.ensures.grown, c.run_levels.ensures.grown)

-- ---- the levels

pub run_levels-run_groups-requires-clause-ready : goal.run_levels-run_groups-requires-clause-ready
run_levels-run_groups-requires-clause-ready g t c κs within =
    let r = c.requires.ready in
    (r.0, r.1, next-level c.args.levels.now c.loop-level.level-index c.level-item.result r.2 c.loop-level-test.true c.level-item.is)

pub run_levels-run_groups-requires-clause-named : goal.run_levels-run_groups-requires-clause-named
run_levels-run_groups-requires-clause-named g t c κs within = c.requires.named

pub run_levels-returns-in_err-made-clause-mean : goal.run_levels-returns-in_err-made-clause-mean
run_levels-returns-in_err-made-clause-mean g t c = λ S G R.
    let x = c.args.context.now in
    let T = pipe_of c.args.pipe.now in
    let l = c.args.rows.now in
    let levels = c.args.levels.now in
    let i = c.loop-level.level-index in
    let d = c.level-item.result in
    let own = next-level levels i d R c.loop-level-test.true c.level-item.is in
    let f : Level → Outcome = level_made (mean x.world (readings x.customs) S T) l in
    let p = err_from_is_err_and c.from_residual.result c.from_residual.ensures.1 in
    rw (p.1, p.2) (gives-err c.in_err-made.field-0.0 (f d) _ (c.in_err-made.ensures.mean S G own) (next-refused f levels i d c.loop-level.all.items _ c.loop-level-test.true c.level-item.is (c.loop-level.invariant.1 S G R).0))

pub run_levels-returns-in_err-made-clause-steps : goal.run_levels-returns-in_err-made-clause-steps
run_levels-returns-in_err-made-clause-steps g t c = λ S G R.
    let x = c.args.context.now in
    let T = pipe_of c.args.pipe.now in
    let l = c.args.rows.now in
    let levels = c.args.levels.now in
    let i = c.loop-level.level-index in
    let d = c.level-item.result in
    let own = next-level levels i d R c.loop-level-test.true c.level-item.is in
    let left = (c.loop-level.invariant.1 S G R).1 in
    let next = level-costs x S T l levels i d c.loop-level-test.true c.level-item.is in
    let spent = c.run_groups.ensures.steps S G own in
    omega (arith, left, next, spent)

pub run_levels-returns-in_err-made-clause-grown : goal.run_levels-returns-in_err-made-clause-grown
run_levels-returns-in_err-made-clause-grown g t c = omega (arith, c.run_groups.ensures.grown, c.loop-level.invariant.0)

pub run_levels-returns-in_err-append-clause-steps : goal.run_levels-returns-in_err-append-clause-steps
run_levels-returns-in_err-append-clause-steps g t c = λ S G R.
    let x = c.args.context.now in
    let T = pipe_of c.args.pipe.now in
    let l = c.args.rows.now in
    let levels = c.args.levels.now in
    let i = c.loop-level.level-index in
    let d = c.level-item.result in
    let own = next-level levels i d R c.loop-level-test.true c.level-item.is in
    let left = (c.loop-level.invariant.1 S G R).1 in
    let next = level-costs x S T l levels i d c.loop-level-test.true c.level-item.is in
    let spent = c.run_groups.ensures.steps S G own in
    omega (arith, left, next, spent)

pub run_levels-returns-in_err-append-clause-grown : goal.run_levels-returns-in_err-append-clause-grown
run_levels-returns-in_err-append-clause-grown g t c = omega (arith, c.run_groups.ensures.grown, c.loop-level.invariant.0)

pub run_levels-loop-level-preserved : goal.run_levels-loop-level-preserved
run_levels-loop-level-preserved g t c = (
  omega (arith, c.run_groups.ensures.grown, c.loop-level.invariant.0),
  λ S G R.
      let x = c.args.context.now in
      let T = pipe_of c.args.pipe.now in
      let l = c.args.rows.now in
      let levels = c.args.levels.now in
      let i = c.loop-level.level-index in
      let d = c.level-item.result in
      let own = next-level levels i d R c.loop-level-test.true c.level-item.is in
      let f : Level → Outcome = level_made (mean x.world (readings x.customs) S T) l in
      let left = (c.loop-level.invariant.1 S G R).1 in
      let next = level-costs x S T l levels i d c.loop-level-test.true c.level-item.is in
      let spent = c.run_groups.ensures.steps S G own in
      let appended : c.append.new.self.items ≡ c.loop-level.all.items ++ c.in_ok-made.made.items = search rules in (
        next-joined f levels i d c.loop-level.all.items _ c.in_ok-made.made.items c.loop-level-test.true c.level-item.is (c.loop-level.invariant.1 S G R).0 (c.in_ok-made.ensures.mean S G own)
            ∙ ap (λ xs. option_map (λ rest. xs ++ rest) (joined (map f (drop (i + 1) levels)))) (sym appended),
        omega (arith, left, next, spent),
      ),
)

pub run_levels-returns-clause-mean : goal.run_levels-returns-clause-mean
run_levels-returns-clause-mean g t c = λ S G R.
    let x = c.args.context.now in
    let f : Level → Outcome = level_made (mean x.world (readings x.customs) S (pipe_of c.args.pipe.now)) c.args.rows.now in
    last-joined f c.args.levels.now c.loop-level.level-index c.loop-level.all.items _ (omega (arith, c.loop-level-test.false)) (c.loop-level.invariant.1 S G R).0

pub run_levels-returns-clause-steps : goal.run_levels-returns-clause-steps
run_levels-returns-clause-steps g t c = λ S G R.
    let left = (c.loop-level.invariant.1 S G R).1 in
    omega (arith, left)

pub run_levels-returns-clause-grown : goal.run_levels-returns-clause-grown
run_levels-returns-clause-grown g t c = omega (arith, c.loop-level.invariant.0)

-- ---- the groups of a level

pub run_groups-run_group-requires-clause-within : goal.run_groups-run_group-requires-clause-within
run_groups-run_group-requires-clause-within g t c κs within =
    let counted = c.len-k-end.ensures.value in
    omega (arith, c.loop-k-test.true, counted)

pub run_groups-returns-in_err-made-clause-mean : goal.run_groups-returns-in_err-made-clause-mean
run_groups-returns-in_err-made-clause-mean g t c = λ S G R.
    let x = c.args.context.now in
    let level = c.args.level.now in
    let T = pipe_of c.args.pipe.now in
    let l = c.args.rows.now in
    let u = next-group x S level T l c.loop-k.k _ c.loop-k-test.true c.len-k-end.ensures.value in
    let p = err_from_is_err_and c.from_residual.result c.from_residual.ensures.1 in
    rw (p.1, p.2) (gives-err c.in_err-made.field-0.0 _ _ (c.in_err-made.ensures.mean S G u.group R u.at)
    (next-refused (group_made level.0 (mean x.world (readings x.customs) S T) l) level.1 c.loop-k.k u.group c.loop-k.all.items _ u.within u.here (c.loop-k.invariant.1 S G R).0))

pub run_groups-returns-in_err-made-clause-steps : goal.run_groups-returns-in_err-made-clause-steps
run_groups-returns-in_err-made-clause-steps g t c = λ S G R.
    let x = c.args.context.now in
    let level = c.args.level.now in
    let T = pipe_of c.args.pipe.now in
    let l = c.args.rows.now in
    let u = next-group x S level T l c.loop-k.k _ c.loop-k-test.true c.len-k-end.ensures.value in
    let left = (c.loop-k.invariant.1 S G R).1 in
    let next = u.costs in
    let total = total-charge x S level T l in
    let spent = c.run_group.ensures.steps S G u.group R u.at in
    omega (arith, left, next, total, spent)

pub run_groups-returns-in_err-made-clause-grown : goal.run_groups-returns-in_err-made-clause-grown
run_groups-returns-in_err-made-clause-grown g t c = omega (arith, c.run_group.ensures.grown, c.loop-k.invariant.0)

pub run_groups-returns-in_err-append-clause-steps : goal.run_groups-returns-in_err-append-clause-steps
run_groups-returns-in_err-append-clause-steps g t c = λ S G R.
    let x = c.args.context.now in
    let level = c.args.level.now in
    let T = pipe_of c.args.pipe.now in
    let l = c.args.rows.now in
    let u = next-group x S level T l c.loop-k.k _ c.loop-k-test.true c.len-k-end.ensures.value in
    let left = (c.loop-k.invariant.1 S G R).1 in
    let next = u.costs in
    let total = total-charge x S level T l in
    let spent = c.run_group.ensures.steps S G u.group R u.at in
    omega (arith, left, next, total, spent)

pub run_groups-returns-in_err-append-clause-grown : goal.run_groups-returns-in_err-append-clause-grown
run_groups-returns-in_err-append-clause-grown g t c = omega (arith, c.run_group.ensures.grown, c.loop-k.invariant.0)

pub run_groups-loop-k-preserved : goal.run_groups-loop-k-preserved
run_groups-loop-k-preserved g t c = (
  omega (arith, c.run_group.ensures.grown, c.loop-k.invariant.0),
  λ S G R.
      let x = c.args.context.now in
      let level = c.args.level.now in
      let T = pipe_of c.args.pipe.now in
      let l = c.args.rows.now in
      let f : List Value × List ℕ → Outcome = group_made level.0 (mean x.world (readings x.customs) S T) l in
      let u = next-group x S level T l c.loop-k.k _ c.loop-k-test.true c.len-k-end.ensures.value in
      let inv = c.loop-k.invariant.1 S G R in
      let left = inv.1 in
      let next = u.costs in
      let spent = c.run_group.ensures.steps S G u.group R u.at in
      let appended : c.append.new.self.items ≡ c.loop-k.all.items ++ c.in_ok-made.made.items = search rules in (
        next-joined f level.1 c.loop-k.k u.group c.loop-k.all.items _ c.in_ok-made.made.items u.within u.here inv.0 (c.in_ok-made.ensures.mean S G u.group R u.at)
            ∙ ap (λ xs. option_map (λ rest. xs ++ rest) (joined (map f (drop (c.loop-k.k + 1) level.1)))) (sym appended),
        omega (arith, left, next, spent),
      ),
)

pub run_groups-returns-clause-mean : goal.run_groups-returns-clause-mean
run_groups-returns-clause-mean g t c = λ S G R.
    let x = c.args.context.now in
    let level = c.args.level.now in
    let counted = c.len-k-end.ensures.value in
    let past : length level.1 ≤ c.loop-k.k = omega (arith, c.loop-k-test.false, counted) in
    last-joined (group_made level.0 (mean x.world (readings x.customs) S (pipe_of c.args.pipe.now)) c.args.rows.now) level.1 c.loop-k.k c.loop-k.all.items _ past (c.loop-k.invariant.1 S G R).0

pub run_groups-returns-clause-steps : goal.run_groups-returns-clause-steps
run_groups-returns-clause-steps g t c = λ S G R.
    let left = (c.loop-k.invariant.1 S G R).1 in
    let total = total-charge c.args.context.now S c.args.level.now (pipe_of c.args.pipe.now) c.args.rows.now in
    omega (arith, left, total)

pub run_groups-returns-clause-grown : goal.run_groups-returns-clause-grown
run_groups-returns-clause-grown g t c = omega (arith, c.loop-k.invariant.0)

-- ---- a group

pub run_group-group_of-requires : goal.run_group-group_of-requires
run_group-group_of-requires g t c =
    let l = c.args.rows.now in
    let level = c.args.level.now in
    let d = get_or level.1 c.args.k ([], []) in
    let at = slice_get-get_or level.1 c.args.k ([], []) c.requires.within in
    let places = read-places level.1 c.args.k d c.places-places.result.now at c.places-places.ensures.value in
    record { within = subst (λ ns. IsTrue (list_all (λ k. nat_lt k (length l)) ns)) (sym places) ((c.requires.ready.2).within c.args.k d at) }

pub run_group-held_after-requires-clause-ready : goal.run_group-held_after-requires-clause-ready
run_group-held_after-requires-clause-ready g t c κs within =
    let level = c.args.level.now in
    let r = c.requires.ready in
    let at = slice_get-get_or level.1 c.args.k ([], []) c.requires.within in
    let u = group-run c.args.k r.2 at c.places-places.ensures.value c.in_ok-group.ensures.rows in
    subst (λ x. ReadyFrom x c.args.root.now (pipe_of c.args.pipe.now) (rows_of c.in_ok-group.group)) (sym c.alone-inner.ensures.value) (r.0, r.1, u.runs)

pub run_group-held_after-requires-clause-named : goal.run_group-held_after-requires-clause-named
run_group-held_after-requires-clause-named g t c κs within = subst (λ x. AreReady x (hierarchies (pipe_of c.args.pipe.now))) (sym c.alone-inner.ensures.value) c.requires.named

pub run_group-returns-in_err-group-clause-steps : goal.run_group-returns-in_err-group-clause-steps
run_group-returns-in_err-group-clause-steps g t c = λ S G d R at.
    let x = c.args.context.now in
    let T = pipe_of c.args.pipe.now in
    let l = c.args.rows.now in
    let u = group-run c.args.k R at c.places-places.ensures.value refl in
    let few = u.few in
    let took = c.group_of.ensures.steps in
    let charged : charge_of x S T l d ≡ length (at_places l d.1) + cost x.world (readings x.customs) S T (at_places l d.1) + result_length (mean x.world (readings x.customs) S T (at_places l d.1)) = refl in
    omega (arith, few, charged, took)

pub run_group-returns-in_err-group-clause-grown : goal.run_group-returns-in_err-group-clause-grown
run_group-returns-in_err-group-clause-grown g t c = omega (arith, c.group_of.ensures.grown)

pub run_group-returns-in_err-made-clause-mean : goal.run_group-returns-in_err-made-clause-mean
run_group-returns-in_err-made-clause-mean g t c = λ S G d R at.
    let x = c.args.context.now in
    let T = pipe_of c.args.pipe.now in
    let u = group-run c.args.k R at c.places-places.ensures.value c.in_ok-group.ensures.rows in
    let given = subst (λ x. (S G : Shape) → RunsFrom x c.args.root.now S G T (rows_of c.in_ok-group.group) → GivesHeld (Err c.in_err-made.field-0.0) (mean x.world (readings x.customs) S T (rows_of c.in_ok-group.group))) c.alone-inner.ensures.value c.in_err-made.ensures.mean in
    let p = err_from_is_err_and c.from_residual-in_err-made.result c.from_residual-in_err-made.ensures.1 in
    rw (p.1, p.2) (held-err c.in_err-made.field-0.0 _ _ (given S G u.runs) (λ n. ap (option_map (map (λ r. extended r (keyed c.args.level.now.0 d.0)))) (u.means ∙ n)))

pub run_group-returns-in_err-made-clause-steps : goal.run_group-returns-in_err-made-clause-steps
run_group-returns-in_err-made-clause-steps g t c = λ S G d R at.
    let x = c.args.context.now in
    let T = pipe_of c.args.pipe.now in
    let l = c.args.rows.now in
    let u = group-run c.args.k R at c.places-places.ensures.value c.in_ok-group.ensures.rows in
    let e = c.alone-inner.ensures.value in
    let spent = c.held_after.ensures.steps S G (subst (λ x. RunsFrom x c.args.root.now S G T (rows_of c.in_ok-group.group)) (sym e) u.runs) in
    let same = ap (λ x. cost x.world (readings x.customs) S T (rows_of c.in_ok-group.group)) e in
    let costs = u.costs in
    let few = u.few in
    let took = c.in_ok-group.ensures.steps in
    let charged : charge_of x S T l d ≡ length (at_places l d.1) + cost x.world (readings x.customs) S T (at_places l d.1) + result_length (mean x.world (readings x.customs) S T (at_places l d.1)) = refl in
    omega (arith, few, charged, took, spent, same, costs)

pub run_group-returns-in_err-made-clause-grown : goal.run_group-returns-in_err-made-clause-grown
run_group-returns-in_err-made-clause-grown g t c = omega (arith, c.group_of.ensures.grown, c.held_after.ensures.grown)

pub run_group-returns-in_err-results-clause-steps : goal.run_group-returns-in_err-results-clause-steps
run_group-returns-in_err-results-clause-steps g t c = λ S G d R at.
    let x = c.args.context.now in
    let T = pipe_of c.args.pipe.now in
    let l = c.args.rows.now in
    let u = group-run c.args.k R at c.places-places.ensures.value c.in_ok-group.ensures.rows in
    let e = c.alone-inner.ensures.value in
    let spent = c.in_ok-made.ensures.steps S G (subst (λ x. RunsFrom x c.args.root.now S G T (rows_of c.in_ok-group.group)) (sym e) u.runs) in
    let same = ap (λ x. cost x.world (readings x.customs) S T (rows_of c.in_ok-group.group)) e in
    let costs = u.costs in
    let few = u.few in
    let took = c.in_ok-group.ensures.steps in
    let made = c.made_rows.ensures.steps in
    let charged : charge_of x S T l d ≡ length (at_places l d.1) + cost x.world (readings x.customs) S T (at_places l d.1) + result_length (mean x.world (readings x.customs) S T (at_places l d.1)) = refl in
    omega (arith, few, charged, took, spent, same, costs, made)

pub run_group-returns-in_err-results-clause-grown : goal.run_group-returns-in_err-results-clause-grown
run_group-returns-in_err-results-clause-grown g t c = omega (arith, c.group_of.ensures.grown, c.held_after.ensures.grown, c.made_rows.ensures.grown)

pub run_group-returns-in_err-key-clause-steps : goal.run_group-returns-in_err-key-clause-steps
run_group-returns-in_err-key-clause-steps g t c = λ S G d R at.
    let x = c.args.context.now in
    let T = pipe_of c.args.pipe.now in
    let l = c.args.rows.now in
    let u = group-run c.args.k R at c.places-places.ensures.value c.in_ok-group.ensures.rows in
    let e = c.alone-inner.ensures.value in
    let spent = c.in_ok-made.ensures.steps S G (subst (λ x. RunsFrom x c.args.root.now S G T (rows_of c.in_ok-group.group)) (sym e) u.runs) in
    let same = ap (λ x. cost x.world (readings x.customs) S T (rows_of c.in_ok-group.group)) e in
    let costs = u.costs in
    let few = u.few in
    let took = c.in_ok-group.ensures.steps in
    let made = c.made_rows.ensures.steps in
    let charged : charge_of x S T l d ≡ length (at_places l d.1) + cost x.world (readings x.customs) S T (at_places l d.1) + result_length (mean x.world (readings x.customs) S T (at_places l d.1)) = refl in
    omega (arith, few, charged, took, spent, same, costs, made)

pub run_group-returns-in_err-key-clause-grown : goal.run_group-returns-in_err-key-clause-grown
run_group-returns-in_err-key-clause-grown g t c = omega (arith, c.group_of.ensures.grown, c.held_after.ensures.grown, c.made_rows.ensures.grown)

pub run_group-with_keys-requires : goal.run_group-with_keys-requires
run_group-with_keys-requires g t c =
    let x = c.args.context.now in
    let T = pipe_of c.args.pipe.now in
    let level = c.args.level.now in
    let r = c.requires.ready in
    let R = r.2 in
    let d = get_or level.1 c.args.k ([], []) in
    let at = slice_get-get_or level.1 c.args.k ([], []) c.requires.within in
    let u = group-run c.args.k R at c.places-places.ensures.value c.in_ok-group.ensures.rows in
    let given = subst (λ x. (S G : Shape) → RunsFrom x c.args.root.now S G T (rows_of c.in_ok-group.group) → mean x.world (readings x.customs) S T (rows_of c.in_ok-group.group) ≡ Some (rows_of c.in_ok-made.made)) c.alone-inner.ensures.value c.in_ok-made.ensures.mean in
    let m = u.means ∙ given r.0 r.1 u.runs ∙ ap Some (sym c.in_ok-results.ensures.rows) in
    let key = read-key level.1 c.args.k d c.in_ok-key.key.items at c.in_ok-key.ensures.value in
    record {
      free = subst (λ ps. IsTrue (list_all (λ i. columns_differ (extended i (keyed ps c.as_slice.result.now)).columns) c.in_ok-results.results.items)) (sym c.paths.ensures.value)
          (subst (λ k. IsTrue (list_all (λ i. columns_differ (extended i (keyed level.0 k)).columns) c.in_ok-results.results.items)) (sym (c.as_slice.ensures.value ∙ key)) (R.free c.args.k d c.in_ok-results.results.items at m));
    }

pub run_group-returns-in_err-with_keys-clause-steps : goal.run_group-returns-in_err-with_keys-clause-steps
run_group-returns-in_err-with_keys-clause-steps g t c = λ S G d R at.
    let x = c.args.context.now in
    let T = pipe_of c.args.pipe.now in
    let l = c.args.rows.now in
    let u = group-run c.args.k R at c.places-places.ensures.value c.in_ok-group.ensures.rows in
    let e = c.alone-inner.ensures.value in
    let spent = c.in_ok-made.ensures.steps S G (subst (λ x. RunsFrom x c.args.root.now S G T (rows_of c.in_ok-group.group)) (sym e) u.runs) in
    let same = ap (λ x. cost x.world (readings x.customs) S T (rows_of c.in_ok-group.group)) e in
    let costs = u.costs in
    let few = u.few in
    let took = c.in_ok-group.ensures.steps in
    let made = c.made_rows.ensures.steps in
    let given = subst (λ x. (S G : Shape) → RunsFrom x c.args.root.now S G T (rows_of c.in_ok-group.group) → mean x.world (readings x.customs) S T (rows_of c.in_ok-group.group) ≡ Some (rows_of c.in_ok-made.made)) c.alone-inner.ensures.value c.in_ok-made.ensures.mean in
    let gave = ap result_length (u.means ∙ given S G u.runs ∙ ap Some (sym c.in_ok-results.ensures.rows)) in
    let keyed = c.with_keys.ensures.steps in
    let charged : charge_of x S T l d ≡ length (at_places l d.1) + cost x.world (readings x.customs) S T (at_places l d.1) + result_length (mean x.world (readings x.customs) S T (at_places l d.1)) = refl in
    omega (arith, few, charged, took, spent, same, costs, made, gave, keyed)

pub run_group-returns-in_err-with_keys-clause-grown : goal.run_group-returns-in_err-with_keys-clause-grown
run_group-returns-in_err-with_keys-clause-grown g t c = omega (arith, c.group_of.ensures.grown, c.held_after.ensures.grown, c.made_rows.ensures.grown, c.with_keys.ensures.grown)

pub run_group-returns-clause-steps : goal.run_group-returns-clause-steps
run_group-returns-clause-steps g t c = λ S G d R at.
    let x = c.args.context.now in
    let T = pipe_of c.args.pipe.now in
    let l = c.args.rows.now in
    let u = group-run c.args.k R at c.places-places.ensures.value c.in_ok-group.ensures.rows in
    let e = c.alone-inner.ensures.value in
    let spent = c.in_ok-made.ensures.steps S G (subst (λ x. RunsFrom x c.args.root.now S G T (rows_of c.in_ok-group.group)) (sym e) u.runs) in
    let same = ap (λ x. cost x.world (readings x.customs) S T (rows_of c.in_ok-group.group)) e in
    let costs = u.costs in
    let few = u.few in
    let took = c.in_ok-group.ensures.steps in
    let made = c.made_rows.ensures.steps in
    let given = subst (λ x. (S G : Shape) → RunsFrom x c.args.root.now S G T (rows_of c.in_ok-group.group) → mean x.world (readings x.customs) S T (rows_of c.in_ok-group.group) ≡ Some (rows_of c.in_ok-made.made)) c.alone-inner.ensures.value c.in_ok-made.ensures.mean in
    let gave = ap result_length (u.means ∙ given S G u.runs ∙ ap Some (sym c.in_ok-results.ensures.rows)) in
    let keyed = c.with_keys.ensures.steps in
    let charged : charge_of x S T l d ≡ length (at_places l d.1) + cost x.world (readings x.customs) S T (at_places l d.1) + result_length (mean x.world (readings x.customs) S T (at_places l d.1)) = refl in
    omega (arith, few, charged, took, spent, same, costs, made, gave, keyed)

pub run_group-returns-clause-grown : goal.run_group-returns-clause-grown
run_group-returns-clause-grown g t c = omega (arith, c.group_of.ensures.grown, c.held_after.ensures.grown, c.made_rows.ensures.grown, c.with_keys.ensures.grown)

pub run_group-returns-clause-mean : goal.run_group-returns-clause-mean
run_group-returns-clause-mean g t c = λ S G d R at.
    let x = c.args.context.now in
    let T = pipe_of c.args.pipe.now in
    let level = c.args.level.now in
    let u = group-run c.args.k R at c.places-places.ensures.value c.in_ok-group.ensures.rows in
    let given = subst (λ x. (S G : Shape) → RunsFrom x c.args.root.now S G T (rows_of c.in_ok-group.group) → mean x.world (readings x.customs) S T (rows_of c.in_ok-group.group) ≡ Some (rows_of c.in_ok-made.made)) c.alone-inner.ensures.value c.in_ok-made.ensures.mean in
    let own = c.as_slice.ensures.value ∙ read-key level.1 c.args.k d c.in_ok-key.key.items at c.in_ok-key.ensures.value in
    ap (option_map (map (λ r. extended r (keyed level.0 d.0)))) (u.means ∙ given S G u.runs ∙ ap Some (sym c.in_ok-results.ensures.rows))
    ∙ ap Some ((λ i. map (λ r. extended r (keyed (sym c.paths.ensures.value i) (sym own i))) c.in_ok-results.results.items) ∙ sym c.in_ok-with_keys.ensures.rows)
