use Rattle.std.proofs.Common.{◌≡◌, ◌++◌, ℕ, map, take}
use Rattle.row_frames.specs.Frames.{column_at}
use Rattle.row_frames.proofs.gathered.with_columns.Given as goal

abbrev pub invariant-loop-other : goal.invariant-loop-other
invariant-loop-other l = (k : ℕ) → map (column_at k) l.all.items ≡ map (column_at k) l.fn.columns.items ++ map (column_at k) (take l.other-index l.others)
