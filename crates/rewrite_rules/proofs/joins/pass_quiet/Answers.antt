use Rattle.std.proofs.Common.{◌≡◌, sym, ◌∙◌, ap, subst, List, Option, Some, map}
use Rattle.std.specs.Prelude.{IfOk, option_map}
use Rattle.apply_ast.specs.Trees.{Step}
use Rattle.apply_ast.specs.Views.{step_of}
use Rattle.context_typing.specs.Outcomes.{Outcome, step_outcome}
use Rattle.context_typing.specs.Readings.{readings}
use Rattle.context_typing.proofs.TypesKept.{step-types}
use Rattle.context_typing.proofs.WalkFacts.{outcome-parts}
use Rattle.rewrite_forms.specs.StepShapes.{shape_behind}
use Rattle.rewrite_rules.proofs.JoinForms.{quiet-given}
use Rattle.rewrite_rules.proofs.joins.pass_quiet.Goals as goal

pub passed_by-requires-clause-types : goal.passed_by-requires-clause-types
passed_by-requires-clause-types c =
    let m = c.args.m.now in
    let cs = readings c.args.c.now in
    let y : Outcome = record { shape = c.outcome.inside.shape; quiet = c.outcome.inside.quiet } in
    let e : step_outcome m cs c.in_ok-there.there (step_of c.args.step.now) ≡ Some y = sym c.in_ok-outcome.ensures.value ∙ c.in-Some.is ∙ ap Some (sym c.outcome.view_is) in
    step-types m cs c.requires.sound (step_of c.args.step.now) c.in_ok-there.there y.shape c.in_ok-there.ensures.types (outcome-parts _ _ y e).0

pub returns-clause-value : goal.returns-clause-value
returns-clause-value c =
    let m = c.args.m.now in
    let cs = readings c.args.c.now in
    let s = step_of c.args.step.now in
    let y : Outcome = record { shape = c.outcome.inside.shape; quiet = c.outcome.inside.quiet } in
    let e : step_outcome m cs c.in_ok-there.there s ≡ Some y = sym c.in_ok-outcome.ensures.value ∙ c.in-Some.is ∙ ap Some (sym c.outcome.view_is) in
    subst (λ (R : Option (List Step)). IfOk c.passed_by.result (λ o. option_map (λ v. map step_of v.items) o ≡ R))
    (quiet-given m cs (shape_behind m cs c.args.start.now (map step_of c.args.before.now)) c.args.condition.now s (map step_of c.args.rest.now) y
    (ap (λ Z. step_outcome m cs Z s) (sym c.in_ok-there.ensures.value) ∙ e) c.if-not-outcome.false)
    c.passed_by.ensures.value
