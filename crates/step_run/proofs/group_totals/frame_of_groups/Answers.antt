use Rattle.std.proofs.Common.{subst, map}
use Rattle.apply_ast.specs.Views.{agg_of, keys_of, step_of}
use Rattle.apply_meaning.proofs.RunLemmas.{all-fit-of}
use Rattle.apply_meaning.specs.MeaningLaws.{IsLoaded}
use Rattle.step_run.proofs.GroupTotalRuns.{totals-give, totals-ready}
use Rattle.step_run.proofs.group_totals.frame_of_groups.Goals as goal

pub total_groups-requires-clause-of : goal.total_groups-requires-clause-of
total_groups-requires-clause-of g c κs within =
    let r = c.requires.ready in
    all-fit-of c.args.context.now.world r.0 c.args.rows.now (r.2).runs.fit

pub total_groups-requires-clause-ready : goal.total_groups-requires-clause-ready
total_groups-requires-clause-ready g c κs within =
    let r = c.requires.ready in
    totals-ready c.args.context.now c.args.root.now (keys_of c.args.totals.now.keys.now) (map agg_of c.args.totals.now.items.now) c.requires.flat c.requires.folded c.args.rows.now (step_of c.args.step.now) r.0 r.1 r.2 c.requires.step (subst IsLoaded c.store.ensures.value c.data_is_loaded.ensures.value)

pub returns : goal.returns
returns g c = record {
  mean = λ S S' R.
      totals-give c.args.context.now c.args.root.now (keys_of c.args.totals.now.keys.now) (map agg_of c.args.totals.now.items.now) c.requires.flat c.requires.folded c.args.rows.now (step_of c.args.step.now) S S' R c.requires.step c.total_groups.result c.total_groups.ensures;
}
