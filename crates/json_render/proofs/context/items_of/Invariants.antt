use Rattle.std.proofs.Common.{◌≡◌, ◌≤◌, ◌-◌, ◌++◌, ◌∷◌, [], true, length, drop, codes}
use Rattle.std.specs.Prelude.{if◌then◌else◌}
use Rattle.std.specs.List.{list_all, list_any}
use Rattle.edm_values.proofs.SortedLists.{Ascends}
use Rattle.json_render.specs.Bodies.{is_here}
use Rattle.json_render.specs.ItemTexts.{all_items, group_items, is_item, place_items, prefix_paths}
use Rattle.json_render.specs.Places.{name_before, named_parts}
use Rattle.json_render.proofs.Grouping.{groups}
use Rattle.json_render.proofs.context.items_of.Given as goal

abbrev pub invariant-loop-at : goal.invariant-loop-at
invariant-loop-at l = record {
  items : (if list_any is_here (prefix_paths (named_parts l.place)) then codes "*" ∷ [] else []) ++ (all_items l.items.items ++ groups group_items (named_parts (drop l.at l.parts))) ≡ place_items (named_parts l.place);
  rises : Ascends name_before (named_parts (drop l.at l.parts));
  all : list_all is_item l.items.items ≡ true;
  within : l.at ≤ length l.parts;
}

abbrev pub decreases-loop-at : goal.decreases-loop-at
decreases-loop-at l = length l.parts - l.at
