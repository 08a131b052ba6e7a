use Rattle.std.proofs.Common.{◌<◌, sym, ◌∙◌, ap, length, subst}
use Rattle.apply_ast.specs.Views.{pipe_of, pipes_in}
use Rattle.apply_ast.proofs.ViewEquations.{pipes_of-is}
use Rattle.context_typing.specs.Readings.{readings}
use Rattle.optimiser.specs.KnownSteps.{branches_known}
use Rattle.optimiser.proofs.KnownLemmas.{branches-length}
use Rattle.optimiser.proofs.inside.branch_is_among.Goals as goal

pub returns : goal.returns
returns c =
    let m = c.args.m.now in
    let cs = readings c.args.c.now in
    let S = c.args.shape.now in
    let same = branches-length m cs pipe_of (pipes_in c.args.whole.now) c.args.inside.now S (sym (ap (λ ps. branches_known m cs S ps c.args.inside.now) (pipes_of-is c.args.whole.now)) ∙ c.requires.known) in
    subst (λ n. c.args.i < n) (ap length c.requires.whole ∙ sym same) c.requires.within
