use Rattle.std.proofs.Common.{◌≡◌, map, take}
use Rattle.apply_ast.specs.Views.{named_of}
use Rattle.apply_ast.proofs.items.NamedList.copy.Given as goal

abbrev pub invariant-loop-item : goal.invariant-loop-item
invariant-loop-item l = map named_of l.items.items ≡ map named_of (take l.item-index l.item-items)
