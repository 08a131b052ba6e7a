use Rattle.std.proofs.Common.{◌∙◌, ap, List, [], ◌∷◌, ◌++◌, map}
use Rattle.std.proofs.lemmas.List.{map-append}
use Rattle.apply_ast.specs.Trees.{Step}
use Rattle.apply_ast.specs.Views.{step_of}
use Rattle.apply_ast.specs.declared.steps.Step.TheVariants as step
use Rattle.apply_ast.proofs.ViewEquations.{step_of-Concat}
use Rattle.rewrite_rules.proofs.FirstRuns.{grown-some, one-more}
use Rattle.rewrite_rules.proofs.branches.factored.Goals as goal

pub returns-clause-value : goal.returns-clause-value
returns-clause-value c =
    let first = c.in_ok-put_copy.ensures ∙ ap (λ l. map step_of l ++ step_of c.args.first.now ∷ []) c.new-made.ensures.items in
    let others = step_of-Concat c.in_ok-without_first.field-0 ∙ ap Step.Concat c.in_ok-without_first.ensures in
    c.in_ok-put_copies.ensures.steps
    ∙ ap (λ (l : List Step). l ++ map step_of c.args.rest.now)
    (ap (map step_of) c.in_ok-push.ensures.items ∙ map-append step_of c.put_copy.new.out.items (step.Concat c.in_ok-without_first.field-0 ∷ []) ∙ (λ i. first i ++ others i ∷ []))

pub returns-clause-some : goal.returns-clause-some
returns-clause-some c =
    let made = ap (map step_of) c.in_ok-push.ensures.items ∙ map-append step_of c.put_copy.new.out.items (step.Concat c.in_ok-without_first.field-0 ∷ []) in
    grown-some step_of c.push.new.self.items c.put_copies.new.out.items (map step_of c.args.rest.now) c.in_ok-put_copies.ensures.steps
    (one-more step_of c.put_copy.new.out.items c.push.new.self.items (step_of (step.Concat c.in_ok-without_first.field-0)) made)
