use Rattle.std.proofs.Common.{◌≡◌, sym, ◌∙◌, ap, Some, map}
use Rattle.std.specs.Prelude.{is_some, option_map}
use Rattle.std.proofs.lemmas.Result.{IfOk-weaker}
use Rattle.apply_ast.specs.Views.{inner_of, pipe_of, step_of}
use Rattle.context_typing.specs.Readings.{readings}
use Rattle.context_typing.specs.Shapes.{Shape, set_shape}
use Rattle.context_typing.specs.Typing.{inner_shape}
use Rattle.context_typing.proofs.TypingEquations.{inner_shape-NoPipe}
use Rattle.rewrite_forms.specs.StepShapes.{shape_behind}
use Rattle.rewrite_forms.proofs.NodeShapes.{chosen-behind}
use Rattle.rewrite_forms.proofs.nodes.chosen_shape.Goals as goal

pub returns-in-Some-clause-value : goal.returns-in-Some-clause-value
returns-in-Some-clause-value c =
    let m = c.args.m.now in
    let cs = readings c.args.c.now in
    let S = set_shape c.args.of in
    let ss = map step_of c.steps.result.now in
    let typed = ap (λ o. is_some (inner_shape m cs S S (inner_of (option_map pipe_of o)))) (sym c.in-Some.is) ∙ c.requires.typed in
    let there =
    ap (λ (Z : Shape). Some (shape_behind m cs Z ss)) c.set_shape-start.ensures.value ∙ chosen-behind m cs S (pipe_of c.in-Some.pipe) ss c.steps.ensures.tree typed
    ∙ ap (λ o. inner_shape m cs S S (inner_of (option_map pipe_of o))) (sym c.in-Some.is) in
    IfOk-weaker c.shape_behind.result (λ Z. Z ≡ shape_behind m cs c.set_shape-start.result ss) (λ Z. Some Z ≡ inner_shape m cs S S (inner_of (option_map pipe_of c.args.chosen.now))) (λ Z e. ap Some e ∙ there) c.shape_behind.ensures.value

pub returns-in-None-clause-value : goal.returns-in-None-clause-value
returns-in-None-clause-value c =
    let m = c.args.m.now in
    let cs = readings c.args.c.now in
    let S = set_shape c.args.of in
    ap Some c.set_shape-start.ensures.value ∙ sym (inner_shape-NoPipe m cs S S) ∙ ap (λ o. inner_shape m cs S S (inner_of (option_map pipe_of o))) (sym c.in-None.is)
