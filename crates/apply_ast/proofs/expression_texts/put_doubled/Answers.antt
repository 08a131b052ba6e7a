use Rattle.std.proofs.Common.{rules, ◌≡◌, [], ◌∷◌, ◌++◌, OnOk, string_bytes, ap, subst, sym, ◌∙◌, append_assoc}
use Rattle.apply_ast.specs.Printing.{doubled}
use Rattle.apply_ast.proofs.QuotedTexts.{doubled_around, doubled_whole}
use Rattle.apply_ast.proofs.expression_texts.put_doubled.Goals as goal

pub loop-before-preserved : goal.loop-before-preserved
loop-before-preserved c =
    let cut = doubled_around c.loop-before.rest.now c.split_once.result (c.in-Some.before, c.in-Some.behind) c.split_once.ensures.cases c.in-Some.is in
    let front = string_bytes c.loop-before.out in (
      search rules,
      ap (λ t. t ++ doubled c.in-Some.behind.now) (c.in_ok-put-2.ensures ∙ ap (λ t. t ++ 39 ∷ 39 ∷ []) c.in_ok-put.ensures ∙ append_assoc front c.in-Some.before.now (39 ∷ 39 ∷ []))
          ∙ append_assoc front (c.in-Some.before.now ++ 39 ∷ 39 ∷ []) (doubled c.in-Some.behind.now)
          ∙ ap (λ t. front ++ t) (append_assoc c.in-Some.before.now (39 ∷ 39 ∷ []) (doubled c.in-Some.behind.now) ∙ sym cut)
          ∙ c.loop-before.invariant.1,
    )

pub returns : goal.returns
returns c =
    subst (λ t. OnOk c.put-2.result (string_bytes c.put-2.new.out ≡ t))
    (ap (λ t. string_bytes c.loop-before.out ++ t) (sym (doubled_whole c.loop-before.rest.now c.split_once.result c.split_once.ensures.cases c.in_default.is)) ∙ c.loop-before.invariant.1) c.put-2.ensures
