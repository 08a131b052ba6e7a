use Rattle.std.proofs.Common.{◌≡◌, map, take}
use Rattle.std.specs.Prelude.{option_map}
use Rattle.apply_ast.specs.Views.{agg_of}
use Rattle.step_run.specs.ItemLists.{item_list}
use Rattle.step_run.proofs.item_lists.lists_of.Given as goal

-- the values of the items so far
abbrev pub invariant-loop-item : goal.invariant-loop-item
invariant-loop-item g l = map (option_map (λ v. v.items)) l.lists.items ≡ map (λ i. item_list l.context.world l.rows (agg_of i)) (take l.item-index l.items)
