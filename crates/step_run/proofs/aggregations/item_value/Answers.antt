use Rattle.std.proofs.Common.{ap, subst}
use Rattle.apply_ast.specs.Views.{agg_of, expr_of}
use Rattle.apply_meaning.specs.MeaningLaws.{IsLoaded}
use Rattle.apply_meaning.proofs.RunLemmas.{all-fit-of}
use Rattle.step_run.specs.Conditions.{ItemRuns}
use Rattle.step_run.proofs.CustomLemmas.{item-foldable}
use Rattle.step_run.proofs.aggregations.item_value.Goals as goal

pub aggregate_on-requires-clause-of : goal.aggregate_on-requires-clause-of
aggregate_on-requires-clause-of g c κs within =
    let r = c.requires.ready in
    all-fit-of c.args.context.now.world r.0 c.args.rows.now (r.1).fit

pub aggregate_on-requires-clause-kind : goal.aggregate_on-requires-clause-kind
aggregate_on-requires-clause-kind g c κs within =
    let x = c.args.context.now in
    let l = c.args.rows.now in
    let r = c.requires.ready in
    item-foldable x c.args.root.now r.0 (expr_of c.in-Standard.e) c.in-Standard.method c.in-Standard.name l (subst IsLoaded c.store.ensures.value c.data_is_loaded.ensures.value) (subst (λ i. ItemRuns x c.args.root.now r.0 i l) (ap agg_of c.in-Standard.is) r.1)
