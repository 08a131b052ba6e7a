use Rattle.std.proofs.Common.{◌++◌, string_bytes, ap, ◌∙◌, arith}
use Rattle.apply_ast.specs.Views.{agg_of}
use Rattle.apply_ast.specs.Printing.{print_agg}
use Rattle.apply_ast.proofs.WrittenLists.{joined_step}
use Rattle.apply_ast.proofs.item_texts.put_agg_list.Goals as goal

pub loop-i-preserved : goal.loop-i-preserved
loop-i-preserved c =
    joined_step agg_of print_agg 44 _ _ _ _ c.args.items.now c.loop-i.i c.index-items-i.result (omega arith) c.loop-i.invariant c.in_ok-put_comma.ensures
    (c.in_ok-put_agg.ensures ∙ ap (λ x. string_bytes c.put_comma.new.out ++ print_agg (agg_of x)) c.index-items-i.is)
