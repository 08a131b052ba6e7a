use Rattle.std.proofs.Common.{sym, ◌∙◌, ap, Some, map}
use Rattle.std.specs.Prelude.{option_map}
use Rattle.apply_ast.specs.Views.{item_of, step_of}
use Rattle.context_typing.specs.Readings.{readings}
use Rattle.rewrite_forms.specs.StepShapes.{shape_behind}
use Rattle.rewrite_rules.proofs.RuleForms.{drop-given, drop-kept, drop-form_other, drop-form_none, begins-some, made-some}
use Rattle.rewrite_rules.proofs.rules.drop_order.Goals as goal

pub returns-then-not-begins_with_aggregate-clause-value : goal.returns-then-not-begins_with_aggregate-clause-value
returns-then-not-begins_with_aggregate-clause-value c =
    let m = c.args.m.now in
    let cs = readings c.args.c.now in λ b.
    sym (drop-form_other m cs (shape_behind m cs c.args.start.now (map step_of c.args.before.now)) b (step_of c.args.step.now) (map step_of c.args.rest.now)
    (sym c.begins_with_aggregate.ensures.value ∙ c.if-not-begins_with_aggregate.true))

pub returns-then-not-order_sure-clause-value : goal.returns-then-not-order_sure-clause-value
returns-then-not-order_sure-clause-value c =
    let m = c.args.m.now in
    let cs = readings c.args.c.now in λ b.
    drop-kept m cs (shape_behind m cs c.args.start.now (map step_of c.args.before.now)) b c.in_ok-shape-in-Some.shape c.in_ok-shape-in-Some.ensures.value (step_of c.args.step.now) (map step_of c.args.rest.now) (map item_of c.as_slice.result.now)
    (sym c.ordered_by.ensures.value ∙ ap (option_map (λ l. map item_of l.now)) c.in-Some.is ∙ ap (λ l. Some (map item_of l)) (sym c.as_slice.ensures.value))
    (sym c.begins_with_aggregate.ensures.value ∙ c.if-not-begins_with_aggregate.false)
    (sym c.order_sure.ensures.value ∙ c.if-not-order_sure.true)

pub returns-in_ok-copies-in-Some-clause-value : goal.returns-in_ok-copies-in-Some-clause-value
returns-in_ok-copies-in-Some-clause-value c =
    let m = c.args.m.now in
    let cs = readings c.args.c.now in λ b.
    ap Some c.in_ok-copies-in-Some.ensures
    ∙ drop-given m cs (shape_behind m cs c.args.start.now (map step_of c.args.before.now)) b c.in_ok-shape-in-Some.shape c.in_ok-shape-in-Some.ensures.value (step_of c.args.step.now) (map step_of c.args.rest.now) (map item_of c.as_slice.result.now)
    (sym c.ordered_by.ensures.value ∙ ap (option_map (λ l. map item_of l.now)) c.in-Some.is ∙ ap (λ l. Some (map item_of l)) (sym c.as_slice.ensures.value))
    (sym c.begins_with_aggregate.ensures.value ∙ c.if-not-begins_with_aggregate.false)
    (sym c.order_sure.ensures.value ∙ c.if-not-order_sure.false)

pub returns-in_ok-copies-in-Some-clause-some : goal.returns-in_ok-copies-in-Some-clause-some
returns-in_ok-copies-in-Some-clause-some c =
    made-some step_of c.in_ok-copies-in-Some.field-0.items (map step_of c.args.rest.now) c.in_ok-copies-in-Some.ensures
    (begins-some (map step_of c.args.rest.now) (sym c.begins_with_aggregate.ensures.value ∙ c.if-not-begins_with_aggregate.false))

pub returns-in-None-clause-value : goal.returns-in-None-clause-value
returns-in-None-clause-value c =
    let m = c.args.m.now in
    let cs = readings c.args.c.now in λ b.
    sym (drop-form_none m cs (shape_behind m cs c.args.start.now (map step_of c.args.before.now)) b (step_of c.args.step.now) (map step_of c.args.rest.now)
    (sym c.ordered_by.ensures.value ∙ ap (option_map (λ l. map item_of l.now)) c.in-None.is))
