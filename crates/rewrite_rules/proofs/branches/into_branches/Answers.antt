use Rattle.std.proofs.Common.{sym, ◌∙◌, ap, Some, map}
use Rattle.std.specs.Prelude.{option_map}
use Rattle.apply_ast.specs.Trees.{Expr, Step}
use Rattle.apply_ast.specs.Views.{expr_of, pipe_of, step_of}
use Rattle.rewrite_laws.specs.Rewrites.{concat, ended}
use Rattle.rewrite_forms.specs.Branches.{is_test_on}
use Rattle.rewrite_rules.specs.Conditions.{entered}
use Rattle.rewrite_rules.proofs.FirstRuns.{nearest-entered}
use Rattle.rewrite_rules.proofs.branches.into_branches.Goals as goal

pub returns-in_ok-entered-in-Some-clause-value : goal.returns-in_ok-entered-in-Some-clause-value
returns-in_ok-entered-in-Some-clause-value c =
    let m = c.args.m.now in
    let S = c.args.shape.now in
    let ps = map pipe_of c.args.branches.now in
    let ss = map step_of c.args.rest.now in
    let b = expr_of c.in-Some.e.now in
    ap Some (c.in_ok-entered-in-Some.ensures.value ∙ ap (λ s. entered s ss c.in-Some.k) c.in_ok-made-in-Some.ensures)
    ∙ nearest-entered m S (is_test_on m c.args.shapes.now) ss c.in-Some.k b (sym (ap (option_map (λ x. (x.0, expr_of x.1.now))) c.in-Some.is) ∙ c.in_ok-k.ensures.value) (λ (b : Expr). concat (map (λ p. ended p (Step.Filter b)) ps))
