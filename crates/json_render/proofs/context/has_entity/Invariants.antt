use Rattle.std.proofs.Common.{◌≡◌, drop}
use Rattle.std.specs.List.{list_any}
use Rattle.json_render.specs.Bodies.{is_here}
use Rattle.json_render.specs.ItemTexts.{prefix_paths}
use Rattle.json_render.specs.Places.{named_parts}
use Rattle.json_render.proofs.context.has_entity.Given as goal

abbrev pub invariant-loop-entry : goal.invariant-loop-entry
invariant-loop-entry l = list_any is_here (prefix_paths (named_parts l.place)) ≡ list_any is_here (prefix_paths (named_parts (drop l.entry-index l.place)))
