use Rattle.std.proofs.Common.{◌≡◌, take}
use Rattle.row_frames.specs.Frames.{all_picked}
use Rattle.row_frames.specs.Keys.{key_columns, seen_columns}
use Rattle.row_frames.proofs.keys.key_columns_of.Given as goal

-- the columns so far
abbrev pub invariant-loop-path : goal.invariant-loop-path
invariant-loop-path g l = seen_columns l.columns.items ≡ key_columns l.store (take l.path-index l.paths) (all_picked l.tables l.picks)
