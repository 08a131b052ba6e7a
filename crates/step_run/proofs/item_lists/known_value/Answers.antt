use Rattle.std.proofs.Common.{◌∙◌, ap, sym, subst}
use Rattle.context_typing.specs.Readings.{readings}
use Rattle.apply_meaning.specs.Aggregates.{aggregate}
use Rattle.apply_meaning.specs.Meaning.{item_value}
use Rattle.edm_values.specs.Lists.{at_places}
use Rattle.apply_ast.specs.Views.{agg_of, expr_of}
use Rattle.aggregate_ops.specs.Partials.{AreFoldable}
use Rattle.apply_meaning.specs.MeaningLaws.{IsLoaded}
use Rattle.step_run.specs.Conditions.{ItemRuns}
use Rattle.step_run.proofs.CustomLemmas.{item-foldable}
use Rattle.step_run.proofs.ItemLists.{own-at, own-within}
use Rattle.step_run.proofs.item_lists.known_value.Goals as goal

pub aggregate_at-requires-clause-within : goal.aggregate_at-requires-clause-within
aggregate_at-requires-clause-within g c κs within =
    own-within c.args.context.now.world c.args.rows.now (agg_of c.args.item.now) (expr_of c.in-Standard.field-0) c.in-Standard.method c.in-Standard.name c.args.values.now c.args.places.now (ap agg_of c.in-Standard.is) c.requires.values c.requires.within

pub aggregate_at-requires-clause-kind : goal.aggregate_at-requires-clause-kind
aggregate_at-requires-clause-kind g c κs within =
    let x = c.args.context.now in
    let l = at_places c.args.rows.now c.args.places.now in
    let r = c.requires.ready in
    let e = expr_of c.in-Standard.field-0 in
    subst (AreFoldable c.in-Standard.method) (sym (own-at x.world c.args.rows.now (agg_of c.args.item.now) e c.in-Standard.method c.in-Standard.name c.args.values.now c.args.places.now (ap agg_of c.in-Standard.is) c.requires.values))
    (item-foldable x c.args.root.now r.0 e c.in-Standard.method c.in-Standard.name l (subst IsLoaded c.store.ensures.value c.data_is_loaded.ensures.value) (subst (λ i. ItemRuns x c.args.root.now r.0 i l) (ap agg_of c.in-Standard.is) r.1))

pub returns : goal.returns
returns g c = λ S h.
    let x = c.args.context.now in
    let l = at_places c.args.rows.now c.args.places.now in
    let own = own-at x.world c.args.rows.now (agg_of c.args.item.now) (expr_of c.in-Standard.field-0) c.in-Standard.method c.in-Standard.name c.args.values.now c.args.places.now (ap agg_of c.in-Standard.is) c.requires.values in
    (λ i. (c.in_ok-path_of-in-Standard.ensures.value i, (c.in_ok-value-in-Standard.ensures ∙ ap (aggregate c.in-Standard.method) own) i))
    ∙ sym (ap (λ j. item_value x.world (readings x.customs) S l (agg_of j)) c.in-Standard.is)
