use Rattle.std.proofs.Common.{rules, ◌∙◌, ◌+◌, ap, subst, drop, map, arith}
use Rattle.std.specs.Prelude.{option_and_then}
use Rattle.std.proofs.Math.ListN.{drop_of_length-le}
use Rattle.std.proofs.lemmas.Result.{err_from_is_err_and}
use Rattle.edm_values.specs.Lists.{at_places}
use Rattle.apply_ast.specs.Trees.{pipe}
use Rattle.apply_ast.specs.Views.{step_of}
use Rattle.context_typing.specs.Readings.{readings}
use Rattle.apply_meaning.proofs.MeaningEquations.{mean-End}
use Rattle.apply_meaning.proofs.RunLemmas.{next-step, turn}
use Rattle.apply_meaning.specs.Meaning.{mean, step_mean}
use Rattle.apply_meaning.specs.MeaningLaws.{IsLoaded}
use Rattle.row_frames.specs.Keys.{seen_columns}
use Rattle.step_run.proofs.KeptSteps.{keeping-at, order-err, read-step}
use Rattle.step_run.specs.Conditions.{StepRunsFrom}
use Rattle.step_run.proofs.kept_groups.kept_places.Goals as goal

pub next_ready-requires-clause-ready : goal.next_ready-requires-clause-ready
next_ready-requires-clause-ready g c κs within =
    let r = c.requires.ready in
    let i = c.loop-i.invariant.1 r.0 r.1 r.2 in
    (i.0, r.1, i.1)

pub kept_by-requires-clause-keeping : goal.kept_by-requires-clause-keeping
kept_by-requires-clause-keeping g c κs within = keeping-at c.args.steps.now c.loop-i.i c.index-steps-i.result c.requires.keeping c.loop-i-test.true c.index-steps-i.is

pub kept_by-requires-clause-lists : goal.kept_by-requires-clause-lists
kept_by-requires-clause-lists g c κs within =
    ap seen_columns c.as_slice.ensures.value ∙ read-step c.args.context.now.world c.args.rows.now c.args.steps.now c.args.lists.now c.loop-i.i c.index-steps-i.result c.index-lists-i.result c.requires.lists c.loop-i-test.true c.index-steps-i.is c.index-lists-i.is

pub returns-in_err-places-2-clause-mean : goal.returns-in_err-places-2-clause-mean
returns-in_err-places-2-clause-mean g c = λ S S' R.
    let w = c.args.context.now.world in
    let cs = readings c.args.context.now.customs in
    let ss = c.args.steps.now in
    let l = at_places c.args.rows.now c.loop-i.places.items in
    let rest = pipe (map step_of (drop (c.loop-i.i + 1) ss)) in
    let e = next-step ss c.loop-i.i c.index-steps-i.result c.loop-i-test.true c.index-steps-i.is in
    let i = c.loop-i.invariant.1 S S' R in
    let u = turn w cs i.0 S' _ (step_of c.index-steps-i.result) rest l e (i.1).runs in
    let p = err_from_is_err_and c.from_residual-in_err-places-2.result c.from_residual-in_err-places-2.ensures.1 in
    rw (p.1, p.2) (order-err c.in_err-places-2.field-0.0 c.args.rows.now (step_mean w cs i.0 (step_of c.index-steps-i.result) l) _ (c.in_err-places-2.ensures.mean i.0 u.between (record { runs = u.first; root_is = (i.1).root_is }))
    (λ n. i.2 ∙ u.meaning ∙ ap (option_and_then (mean w cs u.between rest)) n))

pub loop-i-preserved : goal.loop-i-preserved
loop-i-preserved g c = (
  c.in_ok-places-2.ensures.within,
  λ S S' R.
      let w = c.args.context.now.world in
      let cs = readings c.args.context.now.customs in
      let ss = c.args.steps.now in
      let l = at_places c.args.rows.now c.loop-i.places.items in
      let rest = pipe (map step_of (drop (c.loop-i.i + 1) ss)) in
      let e = next-step ss c.loop-i.i c.index-steps-i.result c.loop-i-test.true c.index-steps-i.is in
      let i = c.loop-i.invariant.1 S S' R in
      let u = turn w cs i.0 S' _ (step_of c.index-steps-i.result) rest l e (i.1).runs in
      let first : StepRunsFrom c.args.context.now c.loop-i.root i.0 u.between (step_of c.index-steps-i.result) l = record { runs = u.first; root_is = (i.1).root_is } in
      let m = c.in_ok-places-2.ensures.mean i.0 u.between first in (
        u.between,
        record {
          runs = u.next (at_places c.args.rows.now c.in_ok-places-2.places.items) (subst IsLoaded c.store.ensures.value c.data_is_loaded.ensures.value) m;
          root_is = c.root_after-root.ensures.value w.model cs i.0 u.between u.first.typed (i.1).root_is;
        },
        i.2 ∙ u.meaning ∙ ap (option_and_then (mean w cs u.between rest)) m,
      ),
)

pub returns-clause-mean : goal.returns-clause-mean
returns-clause-mean g c = λ S S' R.
    let w = c.args.context.now.world in
    let cs = readings c.args.context.now.customs in
    let i = c.loop-i.invariant.1 S S' R in
    let l = at_places c.args.rows.now c.loop-i.places.items in
    i.2 ∙ ap (λ ss. mean w cs i.0 (pipe (map step_of ss)) l) (drop_of_length-le c.args.steps.now (omega (arith, c.loop-i-test.false))) ∙ mean-End w cs i.0 l
