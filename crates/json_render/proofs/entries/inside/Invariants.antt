use Rattle.std.proofs.Common.{◌≡◌, take}
use Rattle.json_render.specs.Places.{named_parts, inside_of}
use Rattle.json_render.proofs.entries.inside.Given as goal

abbrev pub invariant-loop-entry : goal.invariant-loop-entry
invariant-loop-entry l = named_parts l.all.items ≡ inside_of (named_parts (take l.entry-index l.entries))
