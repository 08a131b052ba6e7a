use Rattle.std.proofs.Common.{◌∙◌, ap, List, [], ◌∷◌, ◌++◌, map, arith}
use Rattle.apply_ast.specs.Trees.{Step}
use Rattle.apply_ast.specs.Views.{expr_of, step_of}
use Rattle.rewrite_rules.proofs.FirstRuns.{grown-some, one-more}
use Rattle.rewrite_rules.proofs.made.filters_before_copies.Goals as goal

pub returns-clause-value : goal.returns-clause-value
returns-clause-value c =
    let a = Step.Filter (expr_of c.args.first.now) in
    let b = Step.Filter (expr_of c.args.second.now) in
    c.in_ok-put_copies.ensures.steps
    ∙ ap (λ (l : List Step). l ++ map step_of c.args.rest.now)
    (c.in_ok-put_filter-2.ensures ∙ ap (λ (l : List Step). l ++ b ∷ []) (c.in_ok-put_filter.ensures ∙ ap (λ l. map step_of l ++ a ∷ []) c.new-made.ensures.items))

pub returns-clause-some : goal.returns-clause-some
returns-clause-some c =
    let b = Step.Filter (expr_of c.args.second.now) in
    grown-some step_of c.put_filter-2.new.out.items c.put_copies.new.out.items (map step_of c.args.rest.now) c.in_ok-put_copies.ensures.steps
    (one-more step_of c.put_filter.new.out.items c.put_filter-2.new.out.items b c.in_ok-put_filter-2.ensures)
