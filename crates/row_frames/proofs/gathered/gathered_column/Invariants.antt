use Rattle.std.proofs.Common.{◌≡◌, map, take}
use Rattle.row_frames.specs.Frames.{column_at}
use Rattle.row_frames.proofs.gathered.gathered_column.Given as goal

abbrev pub invariant-loop-row : goal.invariant-loop-row
invariant-loop-row l = l.values.items ≡ map (λ r. (column_at r l.column).1) (take l.row-index l.rows)
