use Rattle.std.proofs.Common.{◌∙◌, ap, List, [], ◌∷◌, ◌++◌, ◌+◌, ◌-◌, length, map, take, drop}
use Rattle.apply_ast.specs.Trees.{Step}
use Rattle.apply_ast.specs.Views.{step_of}
use Rattle.rewrite_rules.proofs.FirstRuns.{grown-some, moved-parts, one-more}
use Rattle.rewrite_rules.proofs.filters.moved.Goals as goal

pub returns-clause-value : goal.returns-clause-value
returns-clause-value c =
    let xs = c.args.rest.now in
    let k = c.args.k in
    let s = step_of c.args.step.now in
    let d = c.index-rest-k.result in
    c.in_ok-put_copies-2.ensures.steps
    ∙ ap (λ (l : List Step). l ++ map step_of (take (length xs - (k + 1)) (drop (k + 1) xs)))
    (c.in_ok-put_copies.ensures.steps
    ∙ ap (λ (l : List Step). l ++ map step_of (take k xs)) (c.in_ok-put_copy-2.ensures ∙ ap (λ (l : List Step). l ++ s ∷ []) (c.in_ok-put_copy.ensures ∙ ap (λ l. map step_of l ++ step_of d ∷ []) c.new-made.ensures.items)))
    ∙ moved-parts step_of s xs k d c.requires c.index-rest-k.is

pub returns-clause-some : goal.returns-clause-some
returns-clause-some c =
    let xs = c.args.rest.now in
    let k = c.args.k in
    grown-some step_of c.put_copies.new.out.items c.put_copies-2.new.out.items (map step_of (take (length xs - (k + 1)) (drop (k + 1) xs))) c.in_ok-put_copies-2.ensures.steps
    (grown-some step_of c.put_copy-2.new.out.items c.put_copies.new.out.items (map step_of (take k xs)) c.in_ok-put_copies.ensures.steps
    (one-more step_of c.put_copy.new.out.items c.put_copy-2.new.out.items (step_of c.args.step.now) c.in_ok-put_copy-2.ensures))
