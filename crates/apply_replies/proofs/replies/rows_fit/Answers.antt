use Rattle.std.proofs.Common.{subst, sym, ℕ}
use Rattle.edm_model.specs.LookUps.{IsSet, set_type}
use Rattle.apply_ast.specs.Views.{pipe_of}
use Rattle.context_typing.proofs.LawfulShapes.{own_is_lawful}
use Rattle.context_typing.specs.Readings.{readings}
use Rattle.context_typing.specs.Shapes.{Shape}
use Rattle.context_typing.specs.Typing.{shape_of_set}
use Rattle.apply_meaning.specs.Instances as instances
use Rattle.apply_meaning.specs.MeaningLaws.{AllFit, IsLoaded}
use Rattle.apply_meaning.proofs.MeaningProved.{loaded-mean_fits, loaded-rows}
use Rattle.optimiser.specs.Plans.{written_of}
use Rattle.frame_run.specs.HeldRows.{rows_of}
use Rattle.apply_replies.proofs.replies.rows_fit.Goals as goal

pub returns-clause-set : goal.returns-clause-set
returns-clause-set c = subst (λ (n : ℕ). IsSet c.args.store.now.world.model n) (sym c.requires.plan.set) c.requires.set

pub returns-clause-fit : goal.returns-clause-fit
returns-clause-fit c =
    let w = c.args.store.now.world in
    let cs = readings c.args.store.now.customs in
    let t = written_of c.args.plan.now in
    let L : IsLoaded w = subst IsLoaded c.«data».ensures.value c.data_is_loaded.ensures.value in
    subst (λ (S : Shape). AllFit w S (rows_of c.args.held.now)) (sym c.requires.plan.shape)
    (loaded-mean_fits w cs (shape_of_set w.model t.set) t.shape (pipe_of t.pipe) (instances.rows w t.set) (rows_of c.args.held.now) L (rw (sym c.customs-customs.ensures.value) c.customs-customs.ensures.whole)
    (own_is_lawful w.model (set_type w.model t.set)) c.requires.plan.typing (loaded-rows w t.set L c.requires.set) c.requires.mean)
