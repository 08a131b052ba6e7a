use Rattle.std.proofs.Common.{sym, ◌∙◌, ap, ◌∷◌, Some, map}
use Rattle.std.specs.Prelude.{option_map}
use Rattle.apply_ast.specs.Views.{expr_of, step_of}
use Rattle.rewrite_forms.specs.Forms.{count_to}
use Rattle.rewrite_rules.proofs.RuleForms.{behind-first, count-given, count-different, count-none, count-alone}
use Rattle.rewrite_rules.proofs.rules.join_counts.Goals as goal

pub returns-then-not-same_expr-clause-value : goal.returns-then-not-same_expr-clause-value
returns-then-not-same_expr-clause-value c = λ m cs S b.
    count-different m cs S b (step_of c.args.step.now) (map step_of c.args.rest.now) c.in-Some.n c.in-Some-first_count.k (expr_of c.in-Some.by.now) (expr_of c.in-Some-first_count.next.now)
    (sym c.count_from_top.ensures.value ∙ ap (option_map (λ x. (x.0, expr_of x.1.now))) c.in-Some.is)
    (sym c.first_count.ensures.value ∙ ap (option_map (λ x. (x.0, expr_of x.1.now))) c.in-Some-first_count.is)
    (sym c.same_expr.ensures.value ∙ c.if-not-same_expr.true)

pub returns-in_ok-count_before_copies-in-Some-first_count-clause-value : goal.returns-in_ok-count_before_copies-in-Some-first_count-clause-value
returns-in_ok-count_before_copies-in-Some-first_count-clause-value c = λ m cs S b.
    ap Some (c.in_ok-count_before_copies-in-Some-first_count.ensures.value ∙ (λ i. count_to (c.min.ensures i) (expr_of c.in-Some.by.now) ∷ behind-first step_of c.args.rest.now i))
    ∙ count-given m cs S b (step_of c.args.step.now) (map step_of c.args.rest.now) c.in-Some.n c.in-Some-first_count.k (expr_of c.in-Some.by.now) (expr_of c.in-Some-first_count.next.now)
    (sym c.count_from_top.ensures.value ∙ ap (option_map (λ x. (x.0, expr_of x.1.now))) c.in-Some.is)
    (sym c.first_count.ensures.value ∙ ap (option_map (λ x. (x.0, expr_of x.1.now))) c.in-Some-first_count.is)
    (sym c.same_expr.ensures.value ∙ c.if-not-same_expr.false)

pub returns-in-None-first_count-clause-value : goal.returns-in-None-first_count-clause-value
returns-in-None-first_count-clause-value c = λ m cs S b.
    count-alone m cs S b (step_of c.args.step.now) (map step_of c.args.rest.now) c.in-Some.n (expr_of c.in-Some.by.now)
    (sym c.count_from_top.ensures.value ∙ ap (option_map (λ x. (x.0, expr_of x.1.now))) c.in-Some.is)
    (sym c.first_count.ensures.value ∙ ap (option_map (λ x. (x.0, expr_of x.1.now))) c.in-None-first_count.is)

pub returns-in-None-clause-value : goal.returns-in-None-clause-value
returns-in-None-clause-value c = λ m cs S b.
    count-none m cs S b (step_of c.args.step.now) (map step_of c.args.rest.now)
    (sym c.count_from_top.ensures.value ∙ ap (option_map (λ x. (x.0, expr_of x.1.now))) c.in-None.is)
