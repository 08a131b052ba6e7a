use Rattle.std.proofs.Common.{map, subst}
use Rattle.apply_ast.specs.Views.{agg_of}
use Rattle.apply_meaning.specs.MeaningLaws.{IsLoaded}
use Rattle.step_run.proofs.CustomLemmas.{items-run}
use Rattle.step_run.proofs.aggregations.aggregation_ready.Goals as goal

pub returns : goal.returns
returns g c =
    let r = c.requires in
    (r.0, items-run c.args.context.now c.args.root.now r.0 r.1 (map agg_of c.args.items.now) c.args.rows.now (subst IsLoaded c.store.ensures.value c.data_is_loaded.ensures.value) r.2)
