use Rattle.std.proofs.Common.{◌≡◌, ℕ, map, take}
use Rattle.row_frames.specs.Frames.{prefix_at}
use Rattle.row_frames.proofs.joined.shared_prefixes.Given as goal

abbrev pub invariant-loop-prefix : goal.invariant-loop-prefix
invariant-loop-prefix l = (k : ℕ) → map (prefix_at k) l.made.items ≡ map (prefix_at k) (take l.prefix-index l.prefixes)
