use Rattle.std.proofs.Common.{◌≡◌, ◌≤◌, ◌-◌, ◌++◌, true, length, drop}
use Rattle.std.specs.List.{list_all}
use Rattle.apply_meaning.specs.Instances.{Instance}
use Rattle.edm_values.proofs.SortedLists.{Ascends}
use Rattle.json_render.specs.Places.{name_before, named_parts}
use Rattle.json_render.specs.RowTexts.{SamePattern, all_members, group_members, is_member, place_members}
use Rattle.json_render.proofs.Grouping.{groups}
use Rattle.json_render.proofs.members.members_of.Given as goal

abbrev pub invariant-loop-at : goal.invariant-loop-at
invariant-loop-at l = record {
  members : (i : Instance) → SamePattern l.row i → all_members l.store i l.members.items ++ groups (group_members l.store i) (named_parts (drop l.at l.parts)) ≡ place_members l.store i (named_parts l.place);
  rises : Ascends name_before (named_parts (drop l.at l.parts));
  all : list_all is_member l.members.items ≡ true;
  within : l.at ≤ length l.parts;
}

abbrev pub decreases-loop-at : goal.decreases-loop-at
decreases-loop-at l = length l.parts - l.at
