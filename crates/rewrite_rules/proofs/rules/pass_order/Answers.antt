use Rattle.std.proofs.Common.{◌≡◌, sym, ◌∙◌, ap, subst, List, Option, Some, map}
use Rattle.std.specs.Prelude.{IfOk, option_map}
use Rattle.apply_ast.specs.Trees.{Step}
use Rattle.apply_ast.specs.Views.{item_of, step_of}
use Rattle.context_typing.specs.Readings.{readings}
use Rattle.rewrite_forms.specs.StepShapes.{shape_behind}
use Rattle.rewrite_rules.proofs.RuleForms.{order-given, order-kept, order-front, order-form_none}
use Rattle.rewrite_rules.proofs.rules.pass_order.Goals as goal

pub returns-then-not-begins_with_filter-clause-value : goal.returns-then-not-begins_with_filter-clause-value
returns-then-not-begins_with_filter-clause-value c =
    let m = c.args.m.now in
    let cs = readings c.args.c.now in λ b.
    order-front m cs (shape_behind m cs c.args.start.now (map step_of c.args.before.now)) b (step_of c.args.step.now) (map step_of c.args.rest.now) (map item_of c.in-Some.items.now)
    (sym c.ordered_by.ensures.value ∙ ap (option_map (λ l. map item_of l.now)) c.in-Some.is) (sym c.begins_with_filter.ensures.value ∙ c.if-not-begins_with_filter.true)

pub returns-then-not-order_sure-clause-value : goal.returns-then-not-order_sure-clause-value
returns-then-not-order_sure-clause-value c =
    let m = c.args.m.now in
    let cs = readings c.args.c.now in λ b.
    order-kept m cs (shape_behind m cs c.args.start.now (map step_of c.args.before.now)) b c.in_ok-shape-in-Some.shape c.in_ok-shape-in-Some.ensures.value (step_of c.args.step.now) (map step_of c.args.rest.now) (map item_of c.as_slice.result.now)
    (sym c.ordered_by.ensures.value ∙ ap (option_map (λ l. map item_of l.now)) c.in-Some.is ∙ ap (λ l. Some (map item_of l)) (sym c.as_slice.ensures.value))
    (sym c.order_sure.ensures.value ∙ c.if-not-order_sure.true)

pub returns-else-not-order_sure-clause-value : goal.returns-else-not-order_sure-clause-value
returns-else-not-order_sure-clause-value c =
    let m = c.args.m.now in
    let cs = readings c.args.c.now in λ b.
    subst (λ (R : Option (List Step)). IfOk c.passed_by.result (λ o. option_map (λ v. map step_of v.items) o ≡ R))
    (order-given m cs (shape_behind m cs c.args.start.now (map step_of c.args.before.now)) b c.in_ok-shape-in-Some.shape c.in_ok-shape-in-Some.ensures.value (step_of c.args.step.now) (map step_of c.args.rest.now) (map item_of c.as_slice.result.now)
    (sym c.ordered_by.ensures.value ∙ ap (option_map (λ l. map item_of l.now)) c.in-Some.is ∙ ap (λ l. Some (map item_of l)) (sym c.as_slice.ensures.value))
    (sym c.order_sure.ensures.value ∙ c.if-not-order_sure.false))
    c.passed_by.ensures.value

pub returns-in-None-clause-value : goal.returns-in-None-clause-value
returns-in-None-clause-value c =
    let m = c.args.m.now in
    let cs = readings c.args.c.now in λ b.
    sym (order-form_none m cs (shape_behind m cs c.args.start.now (map step_of c.args.before.now)) b (step_of c.args.step.now) (map step_of c.args.rest.now)
    (sym c.ordered_by.ensures.value ∙ ap (option_map (λ l. map item_of l.now)) c.in-None.is))
