use Rattle.std.proofs.Common.{subst}
use Rattle.edm_values.specs.Lists.{at_places}
use Rattle.apply_ast.specs.Views.{top_of}
use Rattle.context_typing.specs.Readings.{readings}
use Rattle.apply_meaning.specs.MeaningLaws.{IsLoaded}
use Rattle.step_run.proofs.SelectionLemmas.{limit-ready}
use Rattle.step_run.proofs.kept_groups.selection_ready.Goals as goal

pub returns : goal.returns
returns g c =
    let x = c.args.context.now in
    let r = c.requires in
    limit-ready x.world (readings x.customs) r.0 r.1 (top_of c.args.top.now) (at_places c.args.rows.now c.args.places.now) (subst IsLoaded c.store.ensures.value c.data_is_loaded.ensures.value) (r.2).runs
