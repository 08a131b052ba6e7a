use Rattle.std.proofs.Common.{◌≡◌, sym, ◌∙◌, ap, subst, List, Option, Some, map}
use Rattle.std.specs.Prelude.{IfOk, option_map}
use Rattle.apply_ast.specs.Trees.{Step}
use Rattle.apply_ast.specs.Views.{named_of, step_of}
use Rattle.context_typing.specs.Readings.{readings}
use Rattle.context_typing.specs.Typing.{after}
use Rattle.rewrite_forms.specs.StepShapes.{shape_behind}
use Rattle.rewrite_rules.proofs.RuleForms.{compute-given, compute-front, compute-form_none}
use Rattle.rewrite_rules.proofs.rules.pass_compute.Goals as goal

pub returns-then-not-begins_with_filter-clause-value : goal.returns-then-not-begins_with_filter-clause-value
returns-then-not-begins_with_filter-clause-value c =
    let m = c.args.m.now in
    let cs = readings c.args.c.now in λ b.
    compute-front m cs (shape_behind m cs c.args.start.now (map step_of c.args.before.now)) b (step_of c.args.step.now) (map step_of c.args.rest.now) (map named_of c.in-Some.items.now)
    (sym c.computed_by.ensures.value ∙ ap (option_map (λ l. map named_of l.now)) c.in-Some.is) (sym c.begins_with_filter.ensures.value ∙ c.if-not-begins_with_filter.true)

pub returns-in_ok-shape-in-Some-clause-value : goal.returns-in_ok-shape-in-Some-clause-value
returns-in_ok-shape-in-Some-clause-value c =
    let m = c.args.m.now in
    let cs = readings c.args.c.now in
    let S = shape_behind m cs c.args.start.now (map step_of c.args.before.now) in
    let s = step_of c.args.step.now in
    let ns = map named_of c.as_slice.result.now in λ b.
    subst (λ (R : Option (List Step)). IfOk c.passed_by.result (λ o. option_map (λ v. map step_of v.items) o ≡ R))
    (compute-given m cs S b s (map step_of c.args.rest.now) ns c.in_ok-shape-in-Some.shape
    (sym c.computed_by.ensures.value ∙ ap (option_map (λ l. map named_of l.now)) c.in-Some.is ∙ ap (λ l. Some (map named_of l)) (sym c.as_slice.ensures.value))
    (c.in_ok-shape-in-Some.ensures.value ∙ ap (λ Z. after m cs Z s) c.in_ok-there-in-Some.ensures.value))
    c.passed_by.ensures.value

pub returns-in-None-clause-value : goal.returns-in-None-clause-value
returns-in-None-clause-value c =
    let m = c.args.m.now in
    let cs = readings c.args.c.now in λ b.
    sym (compute-form_none m cs (shape_behind m cs c.args.start.now (map step_of c.args.before.now)) b (step_of c.args.step.now) (map step_of c.args.rest.now)
    (sym c.computed_by.ensures.value ∙ ap (option_map (λ l. map named_of l.now)) c.in-None.is))
