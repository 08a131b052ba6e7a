use Rattle.std.proofs.Common.{◌≡◌, ◌∙◌, ap, subst, sym}
use Rattle.std.proofs.lemmas.Result.{IfOk-weaker}
use Rattle.apply_ast.specs.Views.{expr_of}
use Rattle.apply_meaning.specs.Aggregates.{aggregate}
use Rattle.aggregate_ops.specs.Partials.{AreFoldable}
use Rattle.custom_agg.specs.CustomValues.{group_results}
use Rattle.custom_agg.proofs.customs.over_groups.Goals as goal

pub aggregate_values-requires-clause-kind : goal.aggregate_values-requires-clause-kind
aggregate_values-requires-clause-kind g c κs within =
    let w = c.args.store.now in
    let e = expr_of c.args.read.now.of in
    let results = c.as_slice.ensures.value ∙ c.in_ok-results.ensures ∙ ap (λ ps. group_results w e c.args.method ps c.args.rows.now) c.as_slice-paths.ensures.value in
    subst (AreFoldable c.args.outer) (sym results) c.requires.results

pub returns : goal.returns
returns g c =
    let w = c.args.store.now in
    let e = expr_of c.args.read.now.of in
    let results = c.as_slice.ensures.value ∙ c.in_ok-results.ensures ∙ ap (λ ps. group_results w e c.args.method ps c.args.rows.now) c.as_slice-paths.ensures.value in
    IfOk-weaker c.aggregate_values.result _ (λ v. v ≡ aggregate c.args.outer (group_results w e c.args.method c.args.read.now.per c.args.rows.now)) (λ v h. h ∙ ap (aggregate c.args.outer) results) c.aggregate_values.ensures.value
