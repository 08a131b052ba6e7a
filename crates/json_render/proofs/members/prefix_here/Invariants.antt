use Rattle.std.proofs.Common.{◌≡◌, drop}
use Rattle.json_render.specs.Places.{named_parts}
use Rattle.json_render.specs.RowTexts.{here_place}
use Rattle.json_render.proofs.members.prefix_here.Given as goal

abbrev pub invariant-loop-entry : goal.invariant-loop-entry
invariant-loop-entry l = here_place (named_parts l.place) ≡ here_place (named_parts (drop l.entry-index l.place))
