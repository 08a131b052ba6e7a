use Rattle.std.proofs.Common.{◌≡◌, ◌∙◌}
use Rattle.std.proofs.lemmas.Result.{IfOk-weaker}
use Rattle.apply_ast.specs.Views.{step_of}
use Rattle.context_typing.specs.Readings.{readings}
use Rattle.context_typing.specs.Typing.{after}
use Rattle.optimiser.proofs.KnownLemmas.{behind-is}
use Rattle.optimiser.proofs.stepping.next_shape.Goals as goal

pub returns-in-Some-clause-value : goal.returns-in-Some-clause-value
returns-in-Some-clause-value c =
    let m = c.args.m.now in
    let cs = readings c.args.c.now in
    let S = c.args.shape in
    let s = step_of c.args.step.now in
    IfOk-weaker c.copy.result (λ Z. Z ≡ c.in-Some.behind) (λ Z. Z ≡ after m cs S s) (λ Z h. h ∙ (behind-is m cs S s c.args.of.now c.in-Some.behind c.requires.known c.in-Some.is).0) c.copy.ensures.value
