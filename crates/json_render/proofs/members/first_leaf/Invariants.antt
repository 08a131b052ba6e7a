use Rattle.std.proofs.Common.{◌≡◌, drop}
use Rattle.edm_data.specs.Worlds.{World}
use Rattle.apply_meaning.specs.Instances.{Instance}
use Rattle.json_render.specs.Places.{named_parts}
use Rattle.json_render.specs.RowTexts.{group_value}
use Rattle.json_render.proofs.members.first_leaf.Given as goal

abbrev pub invariant-loop-entry : goal.invariant-loop-entry
invariant-loop-entry l = (w : World) (i : Instance) → group_value w i (named_parts l.group) ≡ group_value w i (named_parts (drop l.entry-index l.group))
