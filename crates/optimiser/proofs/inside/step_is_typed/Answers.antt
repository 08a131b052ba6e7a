use Rattle.std.proofs.Common.{length, map, refl}
use Rattle.std.proofs.lemmas.Option.{slice_get_read}
use Rattle.apply_ast.specs.Views.{step_of}
use Rattle.context_typing.specs.Readings.{readings}
use Rattle.optimiser.proofs.WalkedLemmas.{there-known, there-typed, there-types}
use Rattle.optimiser.proofs.WalkedSteps.{placed}
use Rattle.optimiser.proofs.inside.step_is_typed.Goals as goal

pub returns-clause-types : goal.returns-clause-types
returns-clause-types c = there-types c.args.m.now (readings c.args.c.now) (map step_of c.args.steps.now) c.args.known.now c.args.at c.args.shape.now c.requires.there

pub returns-clause-typed : goal.returns-clause-typed
returns-clause-typed c =
    there-typed c.args.m.now (readings c.args.c.now) (map step_of c.args.steps.now) c.args.known.now c.args.at c.args.shape.now (step_of c.args.step.now)
    (placed step_of c.args.steps.now c.args.at c.args.step.now c.requires.within c.requires.step) c.requires.there

pub returns-clause-known : goal.returns-clause-known
returns-clause-known c =
    there-known c.args.m.now (readings c.args.c.now) (map step_of c.args.steps.now) c.args.known.now c.args.at c.args.shape.now (step_of c.args.step.now) c.args.of.now
    (placed step_of c.args.steps.now c.args.at c.args.step.now c.requires.within c.requires.step)
    (slice_get_read c.args.known.now (length c.args.known.now) c.args.at c.args.of.now refl c.requires.among c.requires.of) c.requires.there
