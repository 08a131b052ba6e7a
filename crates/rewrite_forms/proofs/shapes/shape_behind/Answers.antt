use Rattle.std.proofs.Common.{sym, ◌∙◌, ap, map, take, arith}
use Rattle.apply_ast.specs.Views.{step_of}
use Rattle.context_typing.specs.Readings.{readings}
use Rattle.context_typing.specs.Typing.{after}
use Rattle.rewrite_forms.specs.StepShapes.{shape_behind}
use Rattle.rewrite_forms.proofs.ShapeSteps.{behind-more}
use Rattle.rewrite_forms.proofs.CutLists.{mapped-next}
use Rattle.rewrite_forms.proofs.shapes.shape_behind.Goals as goal

pub loop-step-preserved : goal.loop-step-preserved
loop-step-preserved c =
    let m = c.args.m.now in
    let cs = readings c.args.c.now in (
      c.in_ok-next.ensures.types,
      c.in_ok-next.ensures.value ∙ ap (λ S. after m cs S (step_of c.step-item.result)) c.loop-step.invariant.1
          ∙ sym (behind-more m cs c.args.start.now (map step_of (take c.loop-step.step-index c.args.before.now)) (step_of c.step-item.result))
          ∙ ap (shape_behind m cs c.args.start.now) (sym (mapped-next step_of c.args.before.now c.loop-step.step-index c.step-item.result (omega arith) c.step-item.is)),
    )
