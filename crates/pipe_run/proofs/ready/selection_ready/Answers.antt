use Rattle.std.proofs.Common.{subst}
use Rattle.apply_ast.specs.Views.{top_of}
use Rattle.context_typing.specs.Readings.{readings}
use Rattle.apply_meaning.proofs.RunLemmas.{all-fit-of}
use Rattle.apply_meaning.specs.MeaningLaws.{IsLoaded}
use Rattle.step_run.proofs.SelectionLemmas.{limit-ready}
use Rattle.pipe_run.proofs.ready.selection_ready.Goals as goal

pub returns-clause-of : goal.returns-clause-of
returns-clause-of g c =
    let r = c.requires in
    all-fit-of c.args.context.now.world r.0 c.args.rows.now.items (r.2).runs.fit

pub returns-clause-limit : goal.returns-clause-limit
returns-clause-limit g c =
    let x = c.args.context.now in
    let r = c.requires in
    limit-ready x.world (readings x.customs) r.0 r.1 (top_of c.args.top.now) c.args.rows.now.items (subst IsLoaded c.store.ensures.value c.data_is_loaded.ensures.value) (r.2).runs
