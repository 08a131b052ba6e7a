use Rattle.std.proofs.Common.{◌≡◌, ◌∙◌, ap, length}
use Rattle.std.proofs.lemmas.Result.{IfOk-weaker}
use Rattle.apply_ast.specs.Views.{expr_of}
use Rattle.custom_agg.specs.CustomValues.{are_within, group_results, results_at}
use Rattle.custom_agg.proofs.GroupResults.{groups-within, results-of_groups}
use Rattle.custom_agg.proofs.customs.results_by.Goals as goal

pub group_values-requires-clause-within : goal.group_values-requires-clause-within
group_values-requires-clause-within g c κs within = ap (are_within (length c.args.rows.now)) c.in_ok-groups.ensures ∙ groups-within c.args.store.now c.args.paths.now c.args.rows.now

pub returns : goal.returns
returns g c =
    let w = c.args.store.now in
    let e = expr_of c.args.e.now in
    let results =
    ap (results_at w e c.args.method c.args.rows.now) c.in_ok-groups.ensures
    ∙ results-of_groups w c.args.paths.now c.args.rows.now e c.args.method in
    IfOk-weaker c.group_values.result _ (λ vs. vs.items ≡ group_results w e c.args.method c.args.paths.now c.args.rows.now) (λ vs h. h ∙ results) c.group_values.ensures
