use Rattle.std.proofs.Common.{◌∙◌, ap, [], ◌∷◌, ◌++◌, map}
use Rattle.std.proofs.lemmas.List.{map-append}
use Rattle.apply_ast.specs.Trees.{Step}
use Rattle.apply_ast.specs.Views.{step_of}
use Rattle.apply_ast.specs.declared.steps.Step.TheVariants as step
use Rattle.apply_ast.proofs.ViewEquations.{step_of-Filter}
use Rattle.rewrite_rules.proofs.made.put_filter.Goals as goal

pub returns : goal.returns
returns c =
    let xs = c.args.out.now.items in
    let made = step_of-Filter c.in_ok-copy.field-0 ∙ ap Step.Filter c.in_ok-copy.ensures.value in
    ap (map step_of) c.in_ok-push.ensures.items ∙ map-append step_of xs (step.Filter c.in_ok-copy.field-0 ∷ []) ∙ (λ i. map step_of xs ++ made i ∷ [])
