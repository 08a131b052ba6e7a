use Rattle.std.proofs.Common.{◌≡◌, ◌++◌, map, take, string_bytes}
use Rattle.apply_ast.specs.Printing.{each_behind_byte, print_path}
use Rattle.apply_ast.proofs.item_texts.put_more_paths.Given as goal

abbrev pub invariant-loop-path : goal.invariant-loop-path
invariant-loop-path l = string_bytes l.out ≡ string_bytes l.fn.out ++ each_behind_byte 44 (map print_path (map (λ p. p) (take l.path-index l.paths)))
