use Rattle.std.proofs.Common.{sym, ◌∙◌, ap, Some, map}
use Rattle.std.specs.Prelude.{option_map}
use Rattle.apply_ast.specs.Views.{expr_of, step_of}
use Rattle.context_typing.specs.Readings.{readings}
use Rattle.context_typing.specs.Typing.{after}
use Rattle.rewrite_rules.specs.Conditions.{entered}
use Rattle.rewrite_rules.specs.Joins.{join_parts}
use Rattle.rewrite_forms.specs.StepShapes.{shape_behind}
use Rattle.rewrite_rules.proofs.JoinForms.{inside-longer, related-given, related-left}
use Rattle.rewrite_rules.proofs.joins.filter_related.Goals as goal

pub with_filter-requires : goal.with_filter-requires
with_filter-requires c =
    let m = c.args.m.now in
    let cs = readings c.args.c.now in
    let s = step_of c.args.step.now in
    record {
      longer = inside-longer m cs (shape_behind m cs c.args.start.now (map step_of c.args.before.now)) s (map step_of c.args.rest.now) (join_parts c.in-Some.join.now)
          (sym c.joined_by.ensures ∙ ap (option_map (λ j. join_parts j.now)) c.in-Some.is) c.requires.typed c.in_ok-shape-in-Some.shape
          (c.in_ok-shape-in-Some.ensures.value ∙ ap (λ Z. after m cs Z s) c.in_ok-there-in-Some.ensures.value)
          c.in-Some-2.k (expr_of c.in-Some-2.e.now)
          (sym (ap (option_map (λ x. (x.0, expr_of x.1.now))) c.in-Some-2.is) ∙ c.in_ok-k-in-Some.ensures.value);
    }

pub returns-in-Some-2-clause-value : goal.returns-in-Some-2-clause-value
returns-in-Some-2-clause-value c =
    let m = c.args.m.now in
    let cs = readings c.args.c.now in
    let s = step_of c.args.step.now in λ b.
    ap Some (c.in_ok-entered-in-Some-2.ensures.value ∙ ap (λ x. entered x (map step_of c.args.rest.now) c.in-Some-2.k) c.in_ok-made-in-Some-2.ensures.value)
    ∙ related-given m cs (shape_behind m cs c.args.start.now (map step_of c.args.before.now)) b s (map step_of c.args.rest.now) (join_parts c.in-Some.join.now)
    (sym c.joined_by.ensures ∙ ap (option_map (λ j. join_parts j.now)) c.in-Some.is) c.if-join.false c.in_ok-shape-in-Some.shape
    (c.in_ok-shape-in-Some.ensures.value ∙ ap (λ Z. after m cs Z s) c.in_ok-there-in-Some.ensures.value)
    c.in-Some-2.k (expr_of c.in-Some-2.e.now)
    (sym (ap (option_map (λ x. (x.0, expr_of x.1.now))) c.in-Some-2.is) ∙ c.in_ok-k-in-Some.ensures.value)

pub returns-in-Some-clause-value : goal.returns-in-Some-clause-value
returns-in-Some-clause-value c =
    let m = c.args.m.now in
    let cs = readings c.args.c.now in
    let s = step_of c.args.step.now in λ b.
    related-left m cs (shape_behind m cs c.args.start.now (map step_of c.args.before.now)) b s (map step_of c.args.rest.now) (join_parts c.in-Some.join.now)
    (sym c.joined_by.ensures ∙ ap (option_map (λ j. join_parts j.now)) c.in-Some.is) c.if-join.false c.in_ok-shape-in-Some.shape
    (c.in_ok-shape-in-Some.ensures.value ∙ ap (λ Z. after m cs Z s) c.in_ok-there-in-Some.ensures.value)
    (sym (ap (option_map (λ x. (x.0, expr_of x.1.now))) c.in-None-2.is) ∙ c.in_ok-k-in-Some.ensures.value)
