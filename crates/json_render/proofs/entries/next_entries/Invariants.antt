use Rattle.std.proofs.Common.{◌≡◌, take}
use Rattle.json_render.specs.Places.{named_parts, next_parts}
use Rattle.json_render.proofs.entries.next_entries.Given as goal

abbrev pub invariant-loop-entry : goal.invariant-loop-entry
invariant-loop-entry l = named_parts l.all.items ≡ next_parts (named_parts (take l.entry-index l.entries))
