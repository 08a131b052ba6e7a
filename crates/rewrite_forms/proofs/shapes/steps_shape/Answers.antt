use Rattle.std.proofs.Common.{◌≡◌, sym, ◌∙◌, ap, Some, None, arith}
use Rattle.apply_ast.specs.Views.{step_of}
use Rattle.context_typing.specs.Outcomes.{Outcome, step_outcome}
use Rattle.context_typing.specs.Readings.{readings}
use Rattle.context_typing.specs.ShapeTypes.{has_types}
use Rattle.context_typing.proofs.TypesKept.{step-types}
use Rattle.context_typing.proofs.WalkFacts.{outcome-parts}
use Rattle.rewrite_forms.proofs.TypedSteps.{no-outcome, typed-start, typed-next, typed-missing, typed-end}
use Rattle.rewrite_forms.proofs.shapes.steps_shape.Goals as goal

pub loop-step-init : goal.loop-step-init
loop-step-init c =
    let m = c.args.m.now in (
      ap (has_types m) c.in_ok-shape.ensures.value ∙ c.requires.types,
      typed-start m (readings c.args.c.now) c.args.start.now ∙ ap Some (sym c.in_ok-shape.ensures.value),
    )

pub loop-step-preserved : goal.loop-step-preserved
loop-step-preserved c =
    let m = c.args.m.now in
    let cs = readings c.args.c.now in
    let y : Outcome = record { shape = c.outcome.inside.shape; quiet = c.outcome.inside.quiet } in
    let e : step_outcome m cs c.loop-step.shape (step_of c.step-item.result) ≡ Some y = sym c.in_ok-outcome.ensures.value ∙ c.in-Some.is ∙ ap Some (sym c.outcome.view_is) in
    let k = (outcome-parts _ _ y e).0 in (
      step-types m cs c.requires.sound (step_of c.step-item.result) c.loop-step.shape y.shape c.loop-step.invariant.0 k,
      typed-next m cs c.args.start.now step_of c.args.steps.now c.loop-step.step-index c.step-item.result c.loop-step.shape (omega arith) c.step-item.is c.loop-step.invariant.1 y.shape k,
    )

pub returns-in-None-clause-value : goal.returns-in-None-clause-value
returns-in-None-clause-value c =
    let m = c.args.m.now in
    let cs = readings c.args.c.now in
    let e : step_outcome m cs c.loop-step.shape (step_of c.step-item.result) ≡ None = sym c.in_ok-outcome.ensures.value ∙ c.in-None.is in
    typed-missing m cs c.args.start.now step_of c.args.steps.now c.loop-step.step-index c.step-item.result c.loop-step.shape (omega arith) c.step-item.is c.loop-step.invariant.1
    (no-outcome m cs c.loop-step.shape (step_of c.step-item.result) e)

pub returns-clause-value : goal.returns-clause-value
returns-clause-value c =
    typed-end c.args.m.now (readings c.args.c.now) c.args.start.now step_of c.args.steps.now c.loop-step.step-index c.loop-step.shape (omega arith) c.loop-step.invariant.1
