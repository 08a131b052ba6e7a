use Rattle.std.proofs.Common.{◌∙◌, ap, arith, length}
use Rattle.apply_ast.specs.Views.{expr_of}
use Rattle.edm_values.specs.Lists.{at_places}
use Rattle.apply_meaning.specs.Aggregates.{aggregate}
use Rattle.custom_agg.proofs.GroupResults.{foldable-places, places-of_values, places-within, results-next, values-at_places}
use Rattle.custom_agg.proofs.groups.group_values.Goals as goal

pub aggregate_places-requires-clause-within : goal.aggregate_places-requires-clause-within
aggregate_places-requires-clause-within g c κs within =
    places-of_values c.args.store.now (expr_of c.args.e.now) c.args.rows.now c.as_slice-all.result.now c.places.result.now (c.as_slice-all.ensures.value ∙ c.in_ok-all.ensures.value)
    (places-within (length c.args.rows.now) c.args.groups.now c.loop-k.k c.places.result.now c.requires.within c.places.ensures.value)

pub aggregate_places-requires-clause-kind : goal.aggregate_places-requires-clause-kind
aggregate_places-requires-clause-kind g c κs within =
    let w = c.args.store.now in
    let e = expr_of c.args.e.now in
    foldable-places w e c.args.method c.args.rows.now c.places.result.now (at_places c.as_slice-all.result.now c.places.result.now)
    (ap (λ vs. at_places vs c.places.result.now) (c.as_slice-all.ensures.value ∙ c.in_ok-all.ensures.value) ∙ values-at_places w e c.args.rows.now c.places.result.now) c.requires.foldable

pub loop-k-preserved : goal.loop-k-preserved
loop-k-preserved g c =
    let w = c.args.store.now in
    let e = expr_of c.args.e.now in
    c.in_ok-push.ensures.items
    ∙ results-next w e c.args.method c.args.rows.now c.args.groups.now c.loop-k.k c.places.result.now c.in_ok-aggregate_places.field-0 c.loop-k.results.items (omega arith) c.places.ensures.value
    (c.in_ok-aggregate_places.ensures.value ∙ ap (λ vs. aggregate c.args.method (at_places vs c.places.result.now)) (c.as_slice-all.ensures.value ∙ c.in_ok-all.ensures.value) ∙ ap (aggregate c.args.method) (values-at_places w e c.args.rows.now c.places.result.now)) c.loop-k.invariant
