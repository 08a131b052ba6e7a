use Rattle.std.proofs.Common.{sym, ◌∙◌, ap, [], ◌∷◌, ◌++◌, map}
use Rattle.std.proofs.lemmas.List.{map-append}
use Rattle.apply_ast.specs.Trees.{pipe, steps}
use Rattle.apply_ast.specs.Views.{step_of}
use Rattle.context_typing.proofs.WalkFacts.{steps-pipe}
use Rattle.rewrite_rules.proofs.pipelines.ended.Goals as goal

pub returns : goal.returns
returns c =
    c.new.ensures.tree
    ∙ ap pipe (ap (map step_of) c.in_ok-push.ensures.items ∙ map-append step_of c.in_ok-steps.steps.items (c.in_ok-copy.field-0 ∷ [])
    ∙ (λ i. c.in_ok-steps.ensures i ++ c.in_ok-copy.ensures.value i ∷ [])
    ∙ ap (λ l. l ++ step_of c.args.step.now ∷ []) (sym (steps-pipe (map step_of c.steps.result.now)) ∙ ap steps (sym c.steps.ensures.tree)))
