use Rattle.std.proofs.Common.{◌≡◌, drop}
use Rattle.std.specs.List.{list_any}
use Rattle.json_render.specs.ItemTexts.{ends_column}
use Rattle.json_render.specs.Places.{named_parts}
use Rattle.json_render.proofs.context.has_column.Given as goal

abbrev pub invariant-loop-entry : goal.invariant-loop-entry
invariant-loop-entry l = list_any ends_column (named_parts l.group) ≡ list_any ends_column (named_parts (drop l.entry-index l.group))
