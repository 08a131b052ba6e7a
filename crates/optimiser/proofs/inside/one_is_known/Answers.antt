use Rattle.apply_ast.specs.Views.{step_of}
use Rattle.context_typing.specs.Readings.{readings}
use Rattle.optimiser.proofs.KnownLemmas.{within}
use Rattle.optimiser.proofs.inside.one_is_known.Goals as goal

pub returns : goal.returns
returns c = within c.args.m.now (readings c.args.c.now) step_of c.args.steps.now c.args.known.now c.args.start.now c.args.i c.requires.known c.requires.within
