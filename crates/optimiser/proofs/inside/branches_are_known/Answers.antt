use Rattle.std.proofs.Common.{sym, ◌∙◌, ap}
use Rattle.apply_ast.specs.Views.{step_of}
use Rattle.context_typing.specs.Readings.{readings}
use Rattle.optimiser.specs.KnownSteps.{inside_known}
use Rattle.optimiser.specs.declared.known.Known.{out-Known}
use Rattle.optimiser.proofs.KnownLemmas.{known-inside}
use Rattle.optimiser.proofs.inside.branches_are_known.Goals as goal

pub returns : goal.returns
returns c =
    let m = c.args.m.now in
    let cs = readings c.args.c.now in
    sym (ap (λ s. inside_known m cs c.args.shape.now s (out-Known c.args.of.now).inside.items) c.requires.concat) ∙ known-inside m cs c.args.shape.now (step_of c.args.step.now) c.args.of.now c.requires.known
