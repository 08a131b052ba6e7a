use Rattle.std.proofs.Common.{◌++◌, string_bytes, ap, ◌∙◌, arith}
use Rattle.apply_ast.specs.Views.{named_of}
use Rattle.apply_ast.specs.Printing.{print_named}
use Rattle.apply_ast.proofs.WrittenLists.{joined_step}
use Rattle.apply_ast.proofs.item_texts.put_named_list.Goals as goal

pub loop-i-preserved : goal.loop-i-preserved
loop-i-preserved c =
    joined_step named_of print_named 44 _ _ _ _ c.args.items.now c.loop-i.i c.index-items-i.result (omega arith) c.loop-i.invariant c.in_ok-put_comma.ensures
    (c.in_ok-put_named.ensures ∙ ap (λ x. string_bytes c.put_comma.new.out ++ print_named (named_of x)) c.index-items-i.is)
