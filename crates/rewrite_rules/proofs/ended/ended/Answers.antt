use Rattle.std.proofs.Common.{sym, ◌∙◌, ap, List, [], ◌∷◌, ◌++◌, map}
use Rattle.std.proofs.lemmas.List.{map-append}
use Rattle.apply_ast.specs.Trees.{Step, pipe, steps}
use Rattle.apply_ast.specs.Views.{step_of}
use Rattle.context_typing.proofs.WalkFacts.{steps-pipe}
use Rattle.rewrite_rules.proofs.ended.ended.Goals as goal

pub returns : goal.returns
returns c =
    let s = step_of c.args.step in
    let xs = c.put_copies.new.out.items in
    record {
      value =
          c.new.ensures.tree
          ∙ ap (λ l. pipe (map step_of l)) c.in_ok-push.ensures.items
          ∙ ap pipe (map-append step_of xs (c.args.step ∷ []))
          ∙ ap (λ (l : List Step). pipe (l ++ s ∷ [])) (c.in_ok-put_copies.ensures.steps ∙ ap (λ l. map step_of l ++ map step_of c.steps.result.now) c.new-steps.ensures.items)
          ∙ sym (ap (λ p. pipe (steps p ++ s ∷ [])) c.steps.ensures.tree ∙ ap (λ (l : List Step). pipe (l ++ s ∷ [])) (steps-pipe (map step_of c.steps.result.now)));
    }
