use Rattle.std.proofs.Common.{◌≡◌, map, take}
use Rattle.apply_ast.specs.Views.{item_of}
use Rattle.apply_ast.proofs.items.OrderList.copy.Given as goal

abbrev pub invariant-loop-item : goal.invariant-loop-item
invariant-loop-item l = map item_of l.items.items ≡ map item_of (take l.item-index l.item-items)
