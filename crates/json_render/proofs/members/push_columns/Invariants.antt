use Rattle.std.proofs.Common.{◌≡◌, ◌++◌, map, take}
use Rattle.json_render.specs.Places.{named_parts}
use Rattle.json_render.specs.RowTexts.{column_parts, column_path}
use Rattle.json_render.proofs.members.push_columns.Given as goal

abbrev pub invariant-loop-k : goal.invariant-loop-k
invariant-loop-k l = named_parts l.entries.items ≡ named_parts l.initial.entries.items ++ column_parts l.shape 0 (map column_path (take l.k l.row.columns))
