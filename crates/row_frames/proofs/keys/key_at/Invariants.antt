use Rattle.std.proofs.Common.{◌≡◌, take}
use Rattle.row_frames.specs.Keys as keys
use Rattle.row_frames.proofs.keys.key_at.Given as goal

-- the values so far
abbrev pub invariant-loop-column : goal.invariant-loop-column
invariant-loop-column l = l.key.items ≡ keys.key_at (keys.seen_columns (take l.column-index l.columns)) l.at
