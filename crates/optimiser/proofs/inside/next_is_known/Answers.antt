use Rattle.std.proofs.Common.{length, refl}
use Rattle.std.proofs.lemmas.Option.{slice_get_read}
use Rattle.apply_ast.specs.Views.{step_of}
use Rattle.context_typing.specs.Readings.{readings}
use Rattle.optimiser.proofs.KnownLemmas.{next-known}
use Rattle.optimiser.proofs.inside.next_is_known.Goals as goal

pub returns-clause-known : goal.returns-clause-known
returns-clause-known c =
    (next-known c.args.m.now (readings c.args.c.now) step_of c.args.shape.now c.args.shape.now c.args.steps.now c.args.i c.args.step.now c.args.known.now c.args.of.now
    c.requires.within c.requires.step c.requires.among c.requires.of c.requires.known).0

pub returns-clause-place : goal.returns-clause-place
returns-clause-place c = slice_get_read c.args.known.now (length c.args.known.now) c.args.i c.args.of.now refl c.requires.among c.requires.of
