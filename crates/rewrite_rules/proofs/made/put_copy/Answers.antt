use Rattle.std.proofs.Common.{◌∙◌, ap, [], ◌∷◌, ◌++◌, map}
use Rattle.std.proofs.lemmas.List.{map-append}
use Rattle.apply_ast.specs.Views.{step_of}
use Rattle.rewrite_rules.proofs.made.put_copy.Goals as goal

pub returns : goal.returns
returns c =
    let xs = c.args.out.now.items in
    ap (map step_of) c.in_ok-push.ensures.items ∙ map-append step_of xs (c.in_ok-copy.field-0 ∷ []) ∙ (λ i. map step_of xs ++ c.in_ok-copy.ensures.value i ∷ [])
