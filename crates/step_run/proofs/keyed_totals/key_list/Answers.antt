use Rattle.std.proofs.Common.{◌≡◌, ◌∙◌, ◌<◌, ℕ, ap, length, map, sym, subst}
use Rattle.std.specs.Prelude.{IfSome, slice_index_or}
use Rattle.std.specs.Option.{option_map}
use Rattle.edm_values.specs.declared.Value.TheVariants.{Null}
use Rattle.edm_values.specs.Lists.{at_places}
use Rattle.edm_values.specs.Values.{seen_value}
use Rattle.edm_data.specs.Hierarchies.{rows_under}
use Rattle.apply_ast.specs.Views.{agg_of, expr_of}
use Rattle.aggregate_ops.specs.Partials.{AreFoldable}
use Rattle.apply_meaning.specs.Aggregates.{aggregate}
use Rattle.apply_meaning.specs.MeaningLaws.{IsLoaded}
use Rattle.step_run.specs.Conditions.{ItemRuns}
use Rattle.step_run.proofs.CustomLemmas.{item-foldable}
use Rattle.step_run.proofs.KeyedParts.{seen-long, seen-placed, seen-size}
use Rattle.step_run.proofs.NodeLists.{at-nodes}
use Rattle.step_run.proofs.keyed_totals.key_list.Goals as goal

pub values_at-requires : goal.values_at-requires
values_at-requires g c =
    let known = c.requires.seen (map (λ s. seen_value s) c.in-Some.values.items) (ap (option_map (λ v. map (λ s. seen_value s) v.items)) c.in-Some.is) in
    seen-long c.args.context.now.world c.args.rows.now (agg_of c.args.item.now) (expr_of c.in-Standard.field-0) c.in-Standard.method c.in-Standard.field-2 c.in-Some.values.items c.as_slice.result.now c.args.places.now (ap agg_of c.in-Standard.is) known c.as_slice.ensures.value c.requires.within

pub node_values-requires-clause-size : goal.node_values-requires-clause-size
node_values-requires-clause-size g c κs within =
    let known = c.requires.seen (map (λ s. seen_value s) c.in-Some.values.items) (ap (option_map (λ v. map (λ s. seen_value s) v.items)) c.in-Some.is) in
    let far = seen-long c.args.context.now.world c.args.rows.now (agg_of c.args.item.now) (expr_of c.in-Standard.field-0) c.in-Standard.method c.in-Standard.field-2 c.in-Some.values.items c.as_slice.result.now c.args.places.now (ap agg_of c.in-Standard.is) known c.as_slice.ensures.value c.requires.within in
    ap length c.as_slice-own.ensures.value ∙ seen-size c.as_slice.result.now c.args.places.now c.in_ok-own-in-Some.own.items far c.in_ok-own-in-Some.ensures ∙ sym c.requires.long

pub node_values-requires-clause-kind : goal.node_values-requires-clause-kind
node_values-requires-clause-kind g c κs within =
    let x = c.args.context.now in
    let l = at_places c.args.rows.now c.args.places.now in
    let r = c.requires.ready in
    let known = c.requires.seen (map (λ s. seen_value s) c.in-Some.values.items) (ap (option_map (λ v. map (λ s. seen_value s) v.items)) c.in-Some.is) in
    let is = ap (map (λ v. seen_value v)) c.as_slice-own.ensures.value ∙ c.in_ok-own-in-Some.ensures
    ∙ seen-placed x.world c.args.rows.now (agg_of c.args.item.now) (expr_of c.in-Standard.field-0) c.in-Standard.method c.in-Standard.field-2 c.in-Some.values.items c.as_slice.result.now c.args.places.now (ap agg_of c.in-Standard.is) known c.as_slice.ensures.value in
    subst (AreFoldable c.in-Standard.method) (sym is)
    (item-foldable x c.args.root.now r.0 (expr_of c.in-Standard.field-0) c.in-Standard.method c.in-Standard.field-2 l (subst IsLoaded c.store.ensures.value c.data_is_loaded.ensures.value) (subst (λ i. ItemRuns x c.args.root.now r.0 i l) (ap agg_of c.in-Standard.is) r.1))

pub returns-in_ok-list-in-Some : goal.returns-in_ok-list-in-Some
returns-in_ok-list-in-Some g c = λ v e.
    let w = c.args.context.now.world in
    let l = at_places c.args.rows.now c.args.places.now in
    let parents = c.args.index.now in
    let nodes = c.args.nodes.now in
    let vs = map (λ v. seen_value v) c.as_slice-own.result.now in
    let known = c.requires.seen (map (λ s. seen_value s) c.in-Some.values.items) (ap (option_map (λ v. map (λ s. seen_value s) v.items)) c.in-Some.is) in
    let is = ap (map (λ v. seen_value v)) c.as_slice-own.ensures.value ∙ c.in_ok-own-in-Some.ensures
    ∙ seen-placed w c.args.rows.now (agg_of c.args.item.now) (expr_of c.in-Standard.field-0) c.in-Standard.method c.in-Standard.field-2 c.in-Some.values.items c.as_slice.result.now c.args.places.now (ap agg_of c.in-Standard.is) known c.as_slice.ensures.value in
    let size = subst (λ o. IfSome o (λ v. length v ≡ length parents)) e c.in_ok-list-in-Some.ensures.size in
    let told = subst (λ o. IfSome o (λ v. (x : ℕ) → x < length parents → slice_index_or v x Null ≡ aggregate c.in-Standard.method (at_places vs (rows_under parents x nodes)))) e c.in_ok-list-in-Some.ensures.value in
    at-nodes w l parents nodes (agg_of c.args.item.now) (expr_of c.in-Standard.field-0) c.in-Standard.method c.in-Standard.field-2 vs v (ap agg_of c.in-Standard.is) is size told
