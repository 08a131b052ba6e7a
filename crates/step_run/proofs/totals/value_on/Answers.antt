use Rattle.std.proofs.Common.{◌∙◌, ap, sym, subst}
use Rattle.std.specs.Prelude.{option_map}
use Rattle.context_typing.specs.Readings.{readings}
use Rattle.apply_meaning.specs.Aggregates.{aggregate}
use Rattle.apply_meaning.specs.Meaning.{item_value}
use Rattle.apply_ast.specs.Views.{agg_of, expr_of}
use Rattle.aggregate_ops.specs.Partials.{AreFoldable}
use Rattle.apply_meaning.specs.MeaningLaws.{IsLoaded}
use Rattle.step_run.specs.Conditions.{ItemRuns}
use Rattle.step_run.specs.ItemLists.{item_list}
use Rattle.step_run.proofs.CustomLemmas.{item-foldable}
use Rattle.step_run.proofs.ItemLists.{own-values}
use Rattle.step_run.proofs.totals.value_on.Goals as goal

pub aggregate-requires-after_bounds : goal.aggregate-requires-after_bounds
aggregate-requires-after_bounds g c κs within =
    let x = c.args.context.now in
    let l = c.args.rows.now in
    let r = c.requires.ready in
    let e = expr_of c.in-Standard.field-0 in
    let known = c.requires.values c.in-Some.values.now (ap (option_map (λ o. o.now)) c.in-Some.is) in
    subst (AreFoldable c.in-Standard.method) (sym (own-values x.world l (agg_of c.args.item.now) e c.in-Standard.method c.in-Standard.name c.in-Some.values.now (ap agg_of c.in-Standard.is) known))
    (item-foldable x c.args.root.now r.0 e c.in-Standard.method c.in-Standard.name l (subst IsLoaded c.store.ensures.value c.data_is_loaded.ensures.value) (subst (λ i. ItemRuns x c.args.root.now r.0 i l) (ap agg_of c.in-Standard.is) r.1))

pub unreachable-requires : goal.unreachable-requires
unreachable-requires g c =
    let known = c.requires.values c.in-Some.values.now (ap (option_map (λ o. o.now)) c.in-Some.is) in
    let none = ap (λ i. item_list c.args.context.now.world c.args.rows.now (agg_of i)) c.in-Count.is in
    cc

pub unreachable-requires-in-Custom : goal.unreachable-requires-in-Custom
unreachable-requires-in-Custom g c =
    let known = c.requires.values c.in-Some.values.now (ap (option_map (λ o. o.now)) c.in-Some.is) in
    let none = ap (λ i. item_list c.args.context.now.world c.args.rows.now (agg_of i)) c.in-Custom.is in
    cc

pub returns : goal.returns
returns g c = λ S h.
    let x = c.args.context.now in
    let l = c.args.rows.now in
    let known = c.requires.values c.in-Some.values.now (ap (option_map (λ o. o.now)) c.in-Some.is) in
    let own = own-values x.world l (agg_of c.args.item.now) (expr_of c.in-Standard.field-0) c.in-Standard.method c.in-Standard.name c.in-Some.values.now (ap agg_of c.in-Standard.is) known in
    (λ i. (c.in_ok-path_of-in-Standard.ensures.value i, (c.in_ok-value-in-Standard.ensures.value ∙ ap (aggregate c.in-Standard.method) own) i))
    ∙ sym (ap (λ j. item_value x.world (readings x.customs) S l (agg_of j)) c.in-Standard.is)
