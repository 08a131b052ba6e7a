use Rattle.std.proofs.Common.{◌≡◌, ◌++◌, map, take}
use Rattle.json_render.specs.Places.{named_parts}
use Rattle.json_render.specs.RowTexts.{prefix_parts, prefix_path}
use Rattle.json_render.proofs.members.push_prefixes.Given as goal

abbrev pub invariant-loop-k : goal.invariant-loop-k
invariant-loop-k l = named_parts l.entries.items ≡ named_parts l.initial.entries.items ++ prefix_parts 0 (map prefix_path (take l.k l.row.prefixes))
