use Rattle.std.proofs.Common.{◌++◌, string_bytes, ap, ◌∙◌, arith}
use Rattle.std.specs.List.{join_with_byte}
use Rattle.std.proofs.lemmas.List.{map-id, take_all}
use Rattle.apply_ast.proofs.WrittenLists.{joined_step}
use Rattle.apply_ast.proofs.expression_texts.put_path.Goals as goal

pub loop-i-preserved : goal.loop-i-preserved
loop-i-preserved c =
    joined_step (λ n. n) (λ n. n) 47 _ _ _ _ c.names-name-items.result.now c.loop-i.i c.name-item.result (omega arith) c.loop-i.invariant c.in_ok-put_slash.ensures
    (c.in_ok-put.ensures ∙ ap (λ t. string_bytes c.put_slash.new.out ++ t) (c.text.ensures.value ∙ c.name-item.is))

pub returns : goal.returns
returns c =
    c.loop-i.invariant
    ∙ ap (λ t. string_bytes c.args.out.now ++ join_with_byte 47 t) (map-id _ ∙ map-id _ ∙ take_all c.loop-i.i c.names-name-items.result.now c.loop-i-test.false ∙ c.names-name-items.ensures.names)
