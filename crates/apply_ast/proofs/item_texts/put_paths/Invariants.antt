use Rattle.std.proofs.Common.{◌≡◌, ◌++◌, map, take, string_bytes}
use Rattle.std.specs.List.{join_with_byte}
use Rattle.apply_ast.specs.Printing.{print_path}
use Rattle.apply_ast.proofs.item_texts.put_paths.Given as goal

abbrev pub invariant-loop-i : goal.invariant-loop-i
invariant-loop-i l = string_bytes l.out ≡ string_bytes l.fn.out ++ join_with_byte 44 (map print_path (map (λ p. p) (take l.i l.paths)))
