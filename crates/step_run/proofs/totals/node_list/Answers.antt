use Rattle.std.proofs.Common.{◌≡◌, ◌<◌, ℕ, ap, length, refl, subst}
use Rattle.std.specs.Prelude.{IfSome, slice_index_or}
use Rattle.edm_values.specs.declared.Value.TheVariants.{Null}
use Rattle.edm_values.specs.Lists.{at_places}
use Rattle.edm_data.specs.Hierarchies.{rows_under}
use Rattle.apply_ast.specs.Views.{agg_of, expr_of}
use Rattle.apply_meaning.specs.Aggregates.{aggregate}
use Rattle.apply_meaning.specs.Meaning.{values}
use Rattle.apply_meaning.specs.MeaningLaws.{IsLoaded}
use Rattle.step_run.specs.Conditions.{ItemRuns}
use Rattle.step_run.proofs.CustomLemmas.{item-foldable}
use Rattle.step_run.proofs.NodeLists.{at-nodes}
use Rattle.step_run.proofs.totals.node_list.Goals as goal

pub node_values-requires-clause-kind : goal.node_values-requires-clause-kind
node_values-requires-clause-kind g c κs within =
    let x = c.args.context.now in
    let l = c.args.rows.now in
    let r = c.requires.ready in
    item-foldable x c.args.root.now r.0 (expr_of c.in-Standard.e) c.in-Standard.method c.in-Standard.field-2 l (subst IsLoaded c.store.ensures.value c.data_is_loaded.ensures.value) (subst (λ i. ItemRuns x c.args.root.now r.0 i l) (ap agg_of c.in-Standard.is) r.1)

pub returns-in_ok-list-in-Standard : goal.returns-in_ok-list-in-Standard
returns-in_ok-list-in-Standard g c = λ v e.
    let w = c.args.context.now.world in
    let l = c.args.rows.now in
    let parents = c.args.told.now.parents in
    let nodes = c.args.told.now.nodes in
    let vs = values w (expr_of c.in-Standard.e) l in
    let size = subst (λ o. IfSome o (λ v. length v ≡ length parents)) e c.in_ok-list-in-Standard.ensures.size in
    let told = subst (λ o. IfSome o (λ v. (x : ℕ) → x < length parents → slice_index_or v x Null ≡ aggregate c.in-Standard.method (at_places vs (rows_under parents x nodes)))) e c.in_ok-list-in-Standard.ensures.value in
    at-nodes w l parents nodes (agg_of c.args.item.now) (expr_of c.in-Standard.e) c.in-Standard.method c.in-Standard.field-2 vs v (ap agg_of c.in-Standard.is) refl size told
