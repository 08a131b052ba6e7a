use Rattle.std.proofs.Common.{sym, ◌∙◌, ap, Some, map}
use Rattle.std.specs.Prelude.{option_map}
use Rattle.apply_ast.specs.Views.{expr_of, step_of}
use Rattle.context_typing.specs.Readings.{readings}
use Rattle.rewrite_forms.specs.StepShapes.{shape_behind}
use Rattle.rewrite_rules.proofs.RuleForms.{split-given, split-kept, split-none}
use Rattle.rewrite_rules.proofs.rules.split_conjunction.Goals as goal

pub returns-then-not-is_sure-clause-value : goal.returns-then-not-is_sure-clause-value
returns-then-not-is_sure-clause-value c =
    let m = c.args.m.now in
    let cs = readings c.args.c.now in λ b.
    split-kept m cs (shape_behind m cs c.args.start.now (map step_of c.args.before.now)) b c.in_ok-shape-in-Some.shape c.in_ok-shape-in-Some.ensures.value (step_of c.args.step.now) (map step_of c.args.rest.now)
    (expr_of c.in-Some.first.now, expr_of c.in-Some.second.now)
    (sym c.operands.ensures.value ∙ ap (option_map (λ x. (expr_of x.0.now, expr_of x.1.now))) c.in-Some.is)
    (sym c.is_sure.ensures.value ∙ c.if-not-is_sure.true)

pub returns-in_ok-filters_before_copies-in-Some-clause-value : goal.returns-in_ok-filters_before_copies-in-Some-clause-value
returns-in_ok-filters_before_copies-in-Some-clause-value c =
    let m = c.args.m.now in
    let cs = readings c.args.c.now in λ b.
    ap Some c.in_ok-filters_before_copies-in-Some.ensures.value
    ∙ split-given m cs (shape_behind m cs c.args.start.now (map step_of c.args.before.now)) b c.in_ok-shape-in-Some.shape c.in_ok-shape-in-Some.ensures.value (step_of c.args.step.now) (map step_of c.args.rest.now)
    (expr_of c.in-Some.first.now, expr_of c.in-Some.second.now)
    (sym c.operands.ensures.value ∙ ap (option_map (λ x. (expr_of x.0.now, expr_of x.1.now))) c.in-Some.is)
    (sym c.is_sure.ensures.value ∙ c.if-not-is_sure.false)

pub returns-in-None-clause-value : goal.returns-in-None-clause-value
returns-in-None-clause-value c =
    let m = c.args.m.now in
    let cs = readings c.args.c.now in λ b.
    sym (split-none m cs (shape_behind m cs c.args.start.now (map step_of c.args.before.now)) b (step_of c.args.step.now) (map step_of c.args.rest.now)
    (sym c.operands.ensures.value ∙ ap (option_map (λ x. (expr_of x.0.now, expr_of x.1.now))) c.in-None.is))
