use Rattle.std.proofs.Common.{◌≡◌, ◌++◌, map, take, string_bytes}
use Rattle.apply_ast.specs.Views.{item_of}
use Rattle.apply_ast.specs.Printing.{each_behind_byte, print_item}
use Rattle.apply_ast.proofs.item_texts.put_more_items.Given as goal

abbrev pub invariant-loop-item : goal.invariant-loop-item
invariant-loop-item l = string_bytes l.out ≡ string_bytes l.fn.out ++ each_behind_byte 44 (map print_item (map item_of (take l.item-index l.items)))
