use Rattle.std.proofs.Common.{◌≡◌, ℕ, map, take, true}
use Rattle.apply_meaning.specs.RowViews.{have_paths}
use Rattle.row_frames.specs.Frames.{prefix_at}
use Rattle.row_frames.proofs.readers.have_paths.Given as goal

abbrev pub invariant-loop-prefix : goal.invariant-loop-prefix
invariant-loop-prefix l = (k : ℕ) → have_paths (map (prefix_at k) (take l.prefix-index l.prefixes)) ≡ true
