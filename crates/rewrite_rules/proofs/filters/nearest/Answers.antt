use Rattle.std.proofs.Common.{sym, ◌∙◌, ap, ◌==◌, ◌&&◌, ◌||◌, ◌≤◌, length, map, arith}
use Rattle.std.specs.Prelude.{option_map}
use Rattle.apply_ast.specs.Views.{expr_of, step_of}
use Rattle.rewrite_rules.specs.Conditions.{meets}
use Rattle.rewrite_rules.proofs.FirstRuns.{searched-start, search-other, search-here, search-stop, search-past, search-end}
use Rattle.rewrite_rules.proofs.filters.nearest.Goals as goal

pub loop-k-init : goal.loop-k-init
loop-k-init c = searched-start c.args.m.now c.args.shape.now (meets c.args.m.now c.args.shape.now c.args.condition.now) (map step_of c.args.rest.now)

pub returns-in-None-clause-value : goal.returns-in-None-clause-value
returns-in-None-clause-value c =
    search-other c.args.m.now c.args.shape.now (meets c.args.m.now c.args.shape.now c.args.condition.now) step_of c.args.rest.now c.loop-k.k c.index-rest-k.result c.loop-k-test.true c.index-rest-k.is c.loop-k.invariant
    (sym c.filtered_by.ensures.value ∙ ap (option_map (λ e. expr_of e.now)) c.in-None.is)

pub returns-then-fits-clause-value : goal.returns-then-fits-clause-value
returns-then-fits-clause-value c =
    let b = expr_of c.in-Some.e.now in
    search-here c.args.m.now c.args.shape.now (meets c.args.m.now c.args.shape.now c.args.condition.now) step_of c.args.rest.now c.loop-k.k c.index-rest-k.result c.loop-k-test.true c.index-rest-k.is c.loop-k.invariant b
    (sym c.filtered_by.ensures.value ∙ ap (option_map (λ e. expr_of e.now)) c.in-Some.is)
    (sym (c.in_ok-fits.ensures ∙ ap (λ v. (c.loop-k.k == 0 || v) && meets c.args.m.now c.args.shape.now c.args.condition.now b) c.is_sure-sure.ensures.value) ∙ c.if-fits.true)

pub returns-then-not-sure-clause-value : goal.returns-then-not-sure-clause-value
returns-then-not-sure-clause-value c =
    let b = expr_of c.in-Some.e.now in
    search-stop c.args.m.now c.args.shape.now (meets c.args.m.now c.args.shape.now c.args.condition.now) step_of c.args.rest.now c.loop-k.k c.index-rest-k.result c.loop-k-test.true c.index-rest-k.is c.loop-k.invariant b
    (sym c.filtered_by.ensures.value ∙ ap (option_map (λ e. expr_of e.now)) c.in-Some.is)
    (sym (c.in_ok-fits.ensures ∙ ap (λ v. (c.loop-k.k == 0 || v) && meets c.args.m.now c.args.shape.now c.args.condition.now b) c.is_sure-sure.ensures.value) ∙ c.if-fits.false)
    (sym c.is_sure-sure.ensures.value ∙ c.if-not-sure.true)

pub loop-k-preserved : goal.loop-k-preserved
loop-k-preserved c =
    let b = expr_of c.in-Some.e.now in
    search-past c.args.m.now c.args.shape.now (meets c.args.m.now c.args.shape.now c.args.condition.now) step_of c.args.rest.now c.loop-k.k c.index-rest-k.result c.loop-k-test.true c.index-rest-k.is c.loop-k.invariant b
    (sym c.filtered_by.ensures.value ∙ ap (option_map (λ e. expr_of e.now)) c.in-Some.is)
    (sym (c.in_ok-fits.ensures ∙ ap (λ v. (c.loop-k.k == 0 || v) && meets c.args.m.now c.args.shape.now c.args.condition.now b) c.is_sure-sure.ensures.value) ∙ c.if-fits.false)
    (sym c.is_sure-sure.ensures.value ∙ c.if-not-sure.false)

pub returns-clause-value : goal.returns-clause-value
returns-clause-value c =
    let end : length c.args.rest.now ≤ c.loop-k.k = omega (arith, c.loop-k-test.false) in
    search-end c.args.m.now c.args.shape.now (meets c.args.m.now c.args.shape.now c.args.condition.now) step_of c.args.rest.now c.loop-k.k end c.loop-k.invariant
