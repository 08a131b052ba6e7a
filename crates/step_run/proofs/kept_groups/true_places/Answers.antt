use Rattle.std.proofs.Common.{◌∙◌, ap, map, sym, true}
use Rattle.std.proofs.lemmas.Result.{err_from_is_err_and}
use Rattle.edm_values.specs.Values.{is_beyond, is_value, seen_value}
use Rattle.step_run.proofs.KeptPlaces.{seen-there, true-err, true-more}
use Rattle.step_run.proofs.kept_groups.true_places.Goals as goal

pub returns-in_err-keep : goal.returns-in_err-keep
returns-in_err-keep c =
    let p = err_from_is_err_and c.from_residual-in_err-keep.result c.from_residual-in_err-keep.ensures.1 in
    rw (p.1, p.2) (true-err c.in_err-keep.field-0.0 c.args.values.now c.args.places.now c.loop-at.at-index c.index-values-at.result c.requires c.loop-at-test.true c.index-values-at.is c.in_err-keep.ensures)

pub loop-at-preserved : goal.loop-at-preserved
loop-at-preserved c =
    let ks = c.args.places.now in
    let i = c.loop-at.at-index in
    let v = seen-there c.args.values.now ks i c.index-values-at.result c.requires c.loop-at-test.true c.index-values-at.is in
    true-more (map seen_value c.args.values.now) ks i c.loop-at-test.true c.loop-at.kept.items c.in_ok-kept-2.kept.items c.in_ok-keep.keep
    (c.in_ok-keep.ensures.0 ∙ sym (ap (is_value true) v)) (ap is_beyond v ∙ c.in_ok-keep.ensures.1) c.in_ok-kept-2.ensures c.loop-at.invariant.0 c.loop-at.invariant.1
