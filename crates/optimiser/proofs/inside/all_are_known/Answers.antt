use Rattle.std.proofs.Common.{◌∙◌, ap, map}
use Rattle.apply_ast.specs.Trees.{pipe}
use Rattle.apply_ast.specs.Views.{step_of}
use Rattle.context_typing.specs.Readings.{readings}
use Rattle.optimiser.specs.KnownSteps.{are_known}
use Rattle.optimiser.proofs.inside.all_are_known.Goals as goal

pub returns : goal.returns
returns c = ap (λ S. are_known c.args.m.now (readings c.args.c.now) S (pipe (map step_of c.args.steps.now)) c.args.known.now) c.requires.same ∙ c.requires.known
