use Rattle.std.proofs.Common.{◌≡◌, map, take}
use Rattle.apply_ast.specs.Views.{agg_of}
use Rattle.apply_ast.proofs.items.AggList.copy.Given as goal

abbrev pub invariant-loop-item : goal.invariant-loop-item
invariant-loop-item l = map agg_of l.items.items ≡ map agg_of (take l.item-index l.item-items)
