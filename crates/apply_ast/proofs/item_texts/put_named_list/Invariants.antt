use Rattle.std.proofs.Common.{◌≡◌, ◌++◌, map, take, string_bytes}
use Rattle.apply_ast.specs.Views.{named_of}
use Rattle.std.specs.List.{join_with_byte}
use Rattle.apply_ast.specs.Printing.{print_named}
use Rattle.apply_ast.proofs.item_texts.put_named_list.Given as goal

abbrev pub invariant-loop-i : goal.invariant-loop-i
invariant-loop-i l = string_bytes l.out ≡ string_bytes l.fn.out ++ join_with_byte 44 (map print_named (map named_of (take l.i l.items)))
