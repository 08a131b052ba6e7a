use Rattle.std.proofs.Common.{map, subst}
use Rattle.apply_ast.specs.Views.{named_of}
use Rattle.context_typing.specs.Readings.{readings}
use Rattle.apply_meaning.proofs.RunLemmas.{all-fit-of, compute-free}
use Rattle.apply_meaning.specs.MeaningLaws.{IsLoaded}
use Rattle.frame_run.proofs.frame_steps.computation_ready.Goals as goal

pub returns-clause-of : goal.returns-clause-of
returns-clause-of g c =
    let r = c.requires in
    all-fit-of c.args.context.now.world r.0 c.args.frame.now (r.2).runs.fit

pub returns-clause-free : goal.returns-clause-free
returns-clause-free g c =
    let x = c.args.context.now in
    let r = c.requires in
    compute-free x.world (readings x.customs) r.0 r.1 (map named_of c.args.items.now) c.args.frame.now (subst IsLoaded c.store.ensures.value c.data_is_loaded.ensures.value) (r.2).runs
