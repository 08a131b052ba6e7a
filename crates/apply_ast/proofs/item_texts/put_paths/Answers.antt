use Rattle.std.proofs.Common.{◌++◌, string_bytes, ap, ◌∙◌, arith}
use Rattle.apply_ast.specs.Printing.{print_path}
use Rattle.apply_ast.proofs.WrittenLists.{joined_step}
use Rattle.apply_ast.proofs.item_texts.put_paths.Goals as goal

pub loop-i-preserved : goal.loop-i-preserved
loop-i-preserved c =
    joined_step (λ p. p) print_path 44 _ _ _ _ c.args.paths.now c.loop-i.i c.index-paths-i.result (omega arith) c.loop-i.invariant c.in_ok-put_comma.ensures
    (c.in_ok-put_path.ensures ∙ ap (λ x. string_bytes c.put_comma.new.out ++ print_path x) c.index-paths-i.is)
