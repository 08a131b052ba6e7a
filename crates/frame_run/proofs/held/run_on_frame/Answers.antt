use Rattle.std.proofs.Common.{◌∙◌, [], ap, sym, subst, map, IsTrue, Some, arith}
use Rattle.std.proofs.lemmas.Result.{err_from_is_err_and}
use Rattle.apply_ast.specs.Views.{agg_of, expr_of, item_of, named_of, step_of, top_of, traverse_of}
use Rattle.apply_ast.proofs.ViewEquations.{step_of-Aggregate, step_of-Compute, step_of-Filter, step_of-Identity, step_of-OrderBy, step_of-Skip, step_of-Top, step_of-TopBy, step_of-Traverse}
use Rattle.context_typing.specs.Readings.{readings}
use Rattle.edm_values.specs.Lists.{sorted}
use Rattle.edm_data.specs.Worlds.{World}
use Rattle.apply_meaning.specs.Meaning.{order_before, order_values, refused_at_beyond, step_mean}
use Rattle.apply_meaning.specs.Running.{all_of}
use Rattle.apply_meaning.proofs.MeaningEquations.{step_mean-Compute, step_mean-Filter, step_mean-Identity, step_mean-OrderBy, step_mean-Skip, step_mean-Top, step_mean-TopBy}
use Rattle.apply_meaning.proofs.RunLemmas.{all-fit-of}
use Rattle.row_frames.specs.Frames.{GivesFrame}
use Rattle.hier_states.specs.NamedHierarchies.{step_hierarchies}
use Rattle.step_run.specs.Conditions.{AreReady, StepReadyFrom, StepRunsFrom}
use Rattle.step_run.specs.Costs.{step_cost}
use Rattle.step_run.specs.Hierarchies.{traversal}
use Rattle.frame_run.proofs.HeldLemmas.{made-least, owed-least, owed-length}
use Rattle.pipe_run.proofs.ClimbLemmas.{traverse-run}
use Rattle.pipe_run.proofs.ReadyParts.{ready-first}
use Rattle.step_run.proofs.RunLemmas.{aggregate-cost}
use Rattle.frame_run.proofs.held.run_on_frame.Goals as goal

pub frame_filter-requires-after_bounds : goal.frame_filter-requires-after_bounds
frame_filter-requires-after_bounds g c κs within =
    let r = c.requires.ready in
    all-fit-of c.args.context.now.world r.0 c.args.frame (r.2).runs.fit

pub returns-in-Identity-clause-mean : goal.returns-in-Identity-clause-mean
returns-in-Identity-clause-mean g c = λ S S' R.
    let x = c.args.context.now in
    ap (λ s. step_mean x.world (readings x.customs) S s c.args.frame) (ap step_of c.in-Identity.is ∙ step_of-Identity) ∙ step_mean-Identity x.world (readings x.customs) S c.args.frame

pub returns-in-Skip-clause-mean : goal.returns-in-Skip-clause-mean
returns-in-Skip-clause-mean g c = λ S S' R.
    let x = c.args.context.now in
    ap (λ s. step_mean x.world (readings x.customs) S s c.args.frame) (ap step_of c.in-Skip.is ∙ step_of-Skip c.in-Skip.n) ∙ step_mean-Skip x.world (readings x.customs) S c.in-Skip.n c.args.frame ∙ ap Some (sym c.skip.ensures.value)

pub returns-in-Skip-clause-steps : goal.returns-in-Skip-clause-steps
returns-in-Skip-clause-steps g c = λ S S' R.
    let x = c.args.context.now in
    let m = ap (λ s. step_mean x.world (readings x.customs) S s c.args.frame) (ap step_of c.in-Skip.is ∙ step_of-Skip c.in-Skip.n) ∙ step_mean-Skip x.world (readings x.customs) S c.in-Skip.n c.args.frame ∙ ap Some (sym c.skip.ensures.value) in
    let least = made-least x.world (readings x.customs) S (step_of c.args.step.now) c.args.frame c.skip.result m in
    omega (arith, least)

pub returns-in-Top-clause-mean : goal.returns-in-Top-clause-mean
returns-in-Top-clause-mean g c = λ S S' R.
    let x = c.args.context.now in
    ap (λ s. step_mean x.world (readings x.customs) S s c.args.frame) (ap step_of c.in-Top.is ∙ step_of-Top c.in-Top.n) ∙ step_mean-Top x.world (readings x.customs) S c.in-Top.n c.args.frame ∙ ap Some (sym c.top.ensures.value)

pub returns-in-Top-clause-steps : goal.returns-in-Top-clause-steps
returns-in-Top-clause-steps g c = λ S S' R.
    let x = c.args.context.now in
    let m = ap (λ s. step_mean x.world (readings x.customs) S s c.args.frame) (ap step_of c.in-Top.is ∙ step_of-Top c.in-Top.n) ∙ step_mean-Top x.world (readings x.customs) S c.in-Top.n c.args.frame ∙ ap Some (sym c.top.ensures.value) in
    let least = made-least x.world (readings x.customs) S (step_of c.args.step.now) c.args.frame c.top.result m in
    omega (arith, least)

pub returns-in-Filter-clause-mean : goal.returns-in-Filter-clause-mean
returns-in-Filter-clause-mean g c = λ S S' R.
    let x = c.args.context.now in
    let l = c.args.frame in
    let e = expr_of c.in-Filter.e in
    let m = ap (λ s. step_mean x.world (readings x.customs) S s l) (ap step_of c.in-Filter.is ∙ step_of-Filter c.in-Filter.e) ∙ step_mean-Filter x.world (readings x.customs) S e l in
    c.as_frame.ensures (step_mean x.world (readings x.customs) S (step_of c.args.step.now) l) (subst (GivesFrame c.frame_filter.result) (sym m) c.frame_filter.ensures)

pub returns-in-Filter-clause-steps : goal.returns-in-Filter-clause-steps
returns-in-Filter-clause-steps g c = λ S S' R.
    let x = c.args.context.now in
    let l = c.args.frame in
    let e = expr_of c.in-Filter.e in
    let m = ap (λ s. step_mean x.world (readings x.customs) S s l) (ap step_of c.in-Filter.is ∙ step_of-Filter c.in-Filter.e) ∙ step_mean-Filter x.world (readings x.customs) S e l in
    let given = c.as_frame.ensures (step_mean x.world (readings x.customs) S (step_of c.args.step.now) l) (subst (GivesFrame c.frame_filter.result) (sym m) c.frame_filter.ensures) in
    let least = owed-least x.world (readings x.customs) S (step_of c.args.step.now) l c.as_frame.result given in
    omega (arith, least)

pub frame_aggregated-requires-after_bounds : goal.frame_aggregated-requires-after_bounds
frame_aggregated-requires-after_bounds g c κs within =
    let x = c.args.context.now in
    let e = ap step_of c.in-Aggregate.is ∙ step_of-Aggregate c.in-Aggregate.items in
    subst (λ s. StepReadyFrom x c.args.root.now s c.args.frame) e c.requires.ready

pub returns-in_err-made-in-Aggregate-clause-steps : goal.returns-in_err-made-in-Aggregate-clause-steps
returns-in_err-made-in-Aggregate-clause-steps g c = λ S S' R.
    let x = c.args.context.now in
    let e = ap step_of c.in-Aggregate.is ∙ step_of-Aggregate c.in-Aggregate.items in
    let spent = c.frame_aggregated.ensures.steps in
    let whole = ap (λ s. step_cost x.world (readings x.customs) S s c.args.frame) e ∙ aggregate-cost x.world (readings x.customs) S (map agg_of c.in-Aggregate.items) c.args.frame in
    let p = err_from_is_err_and c.from_residual-in_err-made-in-Aggregate.result c.from_residual-in_err-made-in-Aggregate.ensures.1 in
    rw p.1 (omega (arith, spent, whole))

pub returns-in_ok-made-in-Aggregate-clause-steps : goal.returns-in_ok-made-in-Aggregate-clause-steps
returns-in_ok-made-in-Aggregate-clause-steps g c = λ S S' R.
    let x = c.args.context.now in
    let e = ap step_of c.in-Aggregate.is ∙ step_of-Aggregate c.in-Aggregate.items in
    let spent = c.frame_aggregated.ensures.steps in
    let whole = ap (λ s. step_cost x.world (readings x.customs) S s c.args.frame) e ∙ aggregate-cost x.world (readings x.customs) S (map agg_of c.in-Aggregate.items) c.args.frame in
    omega (arith, spent, whole)

pub frame_selected-requires-after_bounds : goal.frame_selected-requires-after_bounds
frame_selected-requires-after_bounds g c κs within =
    let x = c.args.context.now in
    subst (λ s. StepReadyFrom x c.args.root.now s c.args.frame) (ap step_of c.in-TopBy.is ∙ step_of-TopBy c.in-TopBy.top) c.requires.ready

pub returns-in-TopBy-clause-mean : goal.returns-in-TopBy-clause-mean
returns-in-TopBy-clause-mean g c = λ S S' R.
    let x = c.args.context.now in
    let l = c.args.frame in
    let t = top_of c.in-TopBy.top in
    let m = ap (λ s. step_mean x.world (readings x.customs) S s l) (ap step_of c.in-TopBy.is ∙ step_of-TopBy c.in-TopBy.top) ∙ step_mean-TopBy x.world (readings x.customs) S t l in
    c.as_frame-in-TopBy.ensures (step_mean x.world (readings x.customs) S (step_of c.args.step.now) l) (subst (GivesFrame c.frame_selected.result) (sym m) c.frame_selected.ensures)

pub returns-in-TopBy-clause-steps : goal.returns-in-TopBy-clause-steps
returns-in-TopBy-clause-steps g c = λ S S' R.
    let x = c.args.context.now in
    let l = c.args.frame in
    let t = top_of c.in-TopBy.top in
    let m = ap (λ s. step_mean x.world (readings x.customs) S s l) (ap step_of c.in-TopBy.is ∙ step_of-TopBy c.in-TopBy.top) ∙ step_mean-TopBy x.world (readings x.customs) S t l in
    let given = c.as_frame-in-TopBy.ensures (step_mean x.world (readings x.customs) S (step_of c.args.step.now) l) (subst (GivesFrame c.frame_selected.result) (sym m) c.frame_selected.ensures) in
    let least = owed-least x.world (readings x.customs) S (step_of c.args.step.now) l c.as_frame-in-TopBy.result given in
    omega (arith, least)

pub frame_ordered-requires-clause-of : goal.frame_ordered-requires-clause-of
frame_ordered-requires-clause-of g c κs within =
    let r = c.requires.ready in
    subst (λ (w : World). IsTrue (all_of w c.args.frame)) (sym c.store-store.ensures.value) (all-fit-of c.args.context.now.world r.0 c.args.frame (r.2).runs.fit)

pub returns-in-OrderBy-clause-mean : goal.returns-in-OrderBy-clause-mean
returns-in-OrderBy-clause-mean g c = λ S S' R.
    let x = c.args.context.now in
    let l = c.args.frame in
    let xs = map item_of c.in-OrderBy.items in
    let m = ap (λ s. step_mean x.world (readings x.customs) S s l) (ap step_of c.in-OrderBy.is ∙ step_of-OrderBy c.in-OrderBy.items) ∙ step_mean-OrderBy x.world (readings x.customs) S xs l ∙ ap (λ (w : World). refused_at_beyond (order_values w xs l) (sorted (order_before w xs) l)) (sym c.store-store.ensures.value) in
    c.as_frame-in-OrderBy.ensures (step_mean x.world (readings x.customs) S (step_of c.args.step.now) l) (subst (GivesFrame c.frame_ordered.result) (sym m) c.frame_ordered.ensures)

pub returns-in-OrderBy-clause-steps : goal.returns-in-OrderBy-clause-steps
returns-in-OrderBy-clause-steps g c = λ S S' R.
    let x = c.args.context.now in
    let l = c.args.frame in
    let xs = map item_of c.in-OrderBy.items in
    let m = ap (λ s. step_mean x.world (readings x.customs) S s l) (ap step_of c.in-OrderBy.is ∙ step_of-OrderBy c.in-OrderBy.items) ∙ step_mean-OrderBy x.world (readings x.customs) S xs l ∙ ap (λ (w : World). refused_at_beyond (order_values w xs l) (sorted (order_before w xs) l)) (sym c.store-store.ensures.value) in
    let given = c.as_frame-in-OrderBy.ensures (step_mean x.world (readings x.customs) S (step_of c.args.step.now) l) (subst (GivesFrame c.frame_ordered.result) (sym m) c.frame_ordered.ensures) in
    let least = owed-least x.world (readings x.customs) S (step_of c.args.step.now) l c.as_frame-in-OrderBy.result given in
    omega (arith, least)

pub frame_computed-requires-after_bounds : goal.frame_computed-requires-after_bounds
frame_computed-requires-after_bounds g c κs within =
    let x = c.args.context.now in
    subst (λ s. StepReadyFrom x c.args.root.now s c.args.frame) (ap step_of c.in-Compute.is ∙ step_of-Compute c.in-Compute.items) c.requires.ready

pub returns-in_ok-frame-in-Compute-clause-mean : goal.returns-in_ok-frame-in-Compute-clause-mean
returns-in_ok-frame-in-Compute-clause-mean g c = λ S S' R.
    let x = c.args.context.now in
    ap (λ s. step_mean x.world (readings x.customs) S s c.args.frame) (ap step_of c.in-Compute.is ∙ step_of-Compute c.in-Compute.items)
    ∙ step_mean-Compute x.world (readings x.customs) S (map named_of c.in-Compute.items) c.args.frame ∙ ap Some (sym c.in_ok-frame-in-Compute.ensures)

pub returns-in_ok-frame-in-Compute-clause-steps : goal.returns-in_ok-frame-in-Compute-clause-steps
returns-in_ok-frame-in-Compute-clause-steps g c = λ S S' R.
    let x = c.args.context.now in
    let m = ap (λ s. step_mean x.world (readings x.customs) S s c.args.frame) (ap step_of c.in-Compute.is ∙ step_of-Compute c.in-Compute.items)
    ∙ step_mean-Compute x.world (readings x.customs) S (map named_of c.in-Compute.items) c.args.frame ∙ ap Some (sym c.in_ok-frame-in-Compute.ensures) in
    let least = made-least x.world (readings x.customs) S (step_of c.args.step.now) c.args.frame c.in_ok-frame-in-Compute.frame m in
    omega (arith, least)

-- ---- a traversal

pub frame_traversed-requires-clause-of : goal.frame_traversed-requires-clause-of
frame_traversed-requires-clause-of g c κs within = let r = c.requires.ready in all-fit-of c.args.context.now.world r.0 c.args.frame (r.2).runs.fit

pub frame_traversed-requires-clause-there : goal.frame_traversed-requires-clause-there
frame_traversed-requires-clause-there g c κs within =
    let r = c.requires.ready in
    let e = ap step_of c.in-Traverse.is ∙ step_of-Traverse c.in-Traverse.walk in
    (traverse-run (subst (λ s. StepRunsFrom c.args.context.now c.args.root.now r.0 r.1 s c.args.frame) e r.2)).hierarchy

pub frame_traversed-requires-clause-ready : goal.frame_traversed-requires-clause-ready
frame_traversed-requires-clause-ready g c κs within =
    let e = ap step_of c.in-Traverse.is ∙ step_of-Traverse c.in-Traverse.walk in
    ready-first c.args.context.now (traverse_of c.in-Traverse.walk).hier [] (subst (λ s. AreReady c.args.context.now (step_hierarchies s)) e c.requires.named)

pub returns-in-Traverse-clause-mean : goal.returns-in-Traverse-clause-mean
returns-in-Traverse-clause-mean g c = λ S S' R.
    let x = c.args.context.now in
    let l = c.args.frame in
    let e = ap step_of c.in-Traverse.is ∙ step_of-Traverse c.in-Traverse.walk in
    let u = traverse-run (subst (λ s. StepRunsFrom x c.args.root.now S S' s l) e R) in
    let m = ap (λ s. step_mean x.world (readings x.customs) S s l) e ∙ u.means in
    c.as_frame-in-Traverse.ensures (step_mean x.world (readings x.customs) S (step_of c.args.step.now) l) (subst (GivesFrame c.frame_traversed.result) (sym m) c.frame_traversed.ensures.mean)

pub returns-in-Traverse-clause-steps : goal.returns-in-Traverse-clause-steps
returns-in-Traverse-clause-steps g c = λ S S' R.
    let x = c.args.context.now in
    let l = c.args.frame in
    let e = ap step_of c.in-Traverse.is ∙ step_of-Traverse c.in-Traverse.walk in
    let u = traverse-run (subst (λ s. StepRunsFrom x c.args.root.now S S' s l) e R) in
    let given = c.as_frame-in-Traverse.ensures (traversal x.world (traverse_of c.in-Traverse.walk) l) c.frame_traversed.ensures.mean in
    let owes = owed-length c.as_frame-in-Traverse.result (traversal x.world (traverse_of c.in-Traverse.walk) l) given in
    let spent = c.frame_traversed.ensures.steps in
    let whole = ap (λ s. step_cost x.world (readings x.customs) S s l) e ∙ u.costs in
    omega (arith, owes, spent, whole)
