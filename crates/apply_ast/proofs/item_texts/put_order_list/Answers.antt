use Rattle.std.proofs.Common.{◌++◌, string_bytes, ap, ◌∙◌, arith}
use Rattle.apply_ast.specs.Views.{item_of}
use Rattle.apply_ast.specs.Printing.{print_item}
use Rattle.apply_ast.proofs.WrittenLists.{joined_step}
use Rattle.apply_ast.proofs.item_texts.put_order_list.Goals as goal

pub loop-i-preserved : goal.loop-i-preserved
loop-i-preserved c =
    joined_step item_of print_item 44 _ _ _ _ c.args.items.now c.loop-i.i c.index-items-i.result (omega arith) c.loop-i.invariant c.in_ok-put_comma.ensures
    (c.in_ok-put_item.ensures ∙ ap (λ x. string_bytes c.put_comma.new.out ++ print_item (item_of x)) c.index-items-i.is)
