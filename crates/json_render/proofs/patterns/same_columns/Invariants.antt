use Rattle.std.proofs.Common.{◌≡◌, map, take}
use Rattle.json_render.specs.RowTexts.{column_path}
use Rattle.json_render.proofs.patterns.same_columns.Given as goal

abbrev pub invariant-loop-k : goal.invariant-loop-k
invariant-loop-k l = map column_path (take l.k l.a) ≡ map column_path (take l.k l.b)
