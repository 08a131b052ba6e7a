use Rattle.std.proofs.Common.{sym, ◌∙◌, ap, ◌∷◌, Some, map}
use Rattle.std.specs.Prelude.{option_map}
use Rattle.apply_ast.specs.Trees.{Step}
use Rattle.apply_ast.specs.Views.{expr_of, step_of}
use Rattle.rewrite_laws.specs.Rewrites.{behind}
use Rattle.rewrite_rules.specs.Conditions.{meets}
use Rattle.rewrite_rules.proofs.FirstRuns.{nearest-moved, nearest-none}
use Rattle.rewrite_rules.proofs.filters.passed_by.Goals as goal

pub returns-in_ok-moved-in-Some-clause-value : goal.returns-in_ok-moved-in-Some-clause-value
returns-in_ok-moved-in-Some-clause-value c =
    let m = c.args.m.now in
    let S = c.args.shape.now in
    ap Some c.in_ok-moved-in-Some.ensures.value
    ∙ nearest-moved m S (meets m S c.args.condition.now) (step_of c.args.step.now) (map step_of c.args.rest.now) c.in-Some.k (expr_of c.in-Some.field-0-1.now)
    (sym (ap (option_map (λ x. (x.0, expr_of x.1.now))) c.in-Some.is) ∙ c.in_ok-k.ensures.value)

pub returns-in-None-clause-value : goal.returns-in-None-clause-value
returns-in-None-clause-value c =
    let m = c.args.m.now in
    let S = c.args.shape.now in
    nearest-none m S (meets m S c.args.condition.now) (map step_of c.args.rest.now) (sym (ap (option_map (λ x. (x.0, expr_of x.1.now))) c.in-None.is) ∙ c.in_ok-k.ensures.value)
    (λ r. Step.Filter r.last ∷ behind (step_of c.args.step.now) r)
