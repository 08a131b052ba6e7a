use Rattle.std.proofs.Common.{◌≡◌, sym, ◌∙◌, ap, Some}
use Rattle.apply_ast.specs.Views.{step_of}
use Rattle.context_typing.specs.Outcomes.{Outcome, step_outcome}
use Rattle.context_typing.specs.Readings.{readings}
use Rattle.context_typing.specs.ShapeTypes.{has_types}
use Rattle.context_typing.proofs.TypesKept.{step-types}
use Rattle.context_typing.proofs.WalkFacts.{outcome-parts}
use Rattle.rewrite_forms.proofs.shapes.shape_after.Goals as goal

pub returns-in-Some-clause-types : goal.returns-in-Some-clause-types
returns-in-Some-clause-types c =
    let m = c.args.m.now in
    let cs = readings c.args.c.now in
    let y : Outcome = record { shape = c.outcome.inside.shape; quiet = c.outcome.inside.quiet } in
    let e : step_outcome m cs c.in_ok-copy.field-0 (step_of c.args.step.now) ≡ Some y = sym c.in_ok-outcome.ensures.value ∙ c.in-Some.is ∙ ap Some (sym c.outcome.view_is) in
    step-types m cs c.requires.sound (step_of c.args.step.now) c.in_ok-copy.field-0 y.shape (ap (has_types m) c.in_ok-copy.ensures.value ∙ c.requires.types) (outcome-parts _ _ y e).0
