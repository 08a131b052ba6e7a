use Rattle.std.proofs.Common.{◌≡◌, drop}
use Rattle.apply_meaning.specs.Instances.{Instance}
use Rattle.json_render.specs.Bodies.{is_empty}
use Rattle.json_render.specs.Places.{named_parts}
use Rattle.json_render.specs.RowTexts.{columns_seen}
use Rattle.json_render.proofs.members.has_column.Given as goal

abbrev pub invariant-loop-entry : goal.invariant-loop-entry
invariant-loop-entry l = (i : Instance) → is_empty (columns_seen i (named_parts l.place)) ≡ is_empty (columns_seen i (named_parts (drop l.entry-index l.place)))
