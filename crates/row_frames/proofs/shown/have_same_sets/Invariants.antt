use Rattle.std.proofs.Common.{◌≡◌, map, take}
use Rattle.row_frames.specs.Frames.{prefix_at}
use Rattle.row_frames.specs.Shown.{prefix_set}
use Rattle.row_frames.proofs.shown.have_same_sets.Given as goal

abbrev pub invariant-loop-prefix : goal.invariant-loop-prefix
invariant-loop-prefix l = map prefix_set (map (prefix_at l.a) (take l.prefix-index l.prefixes)) ≡ map prefix_set (map (prefix_at l.b) (take l.prefix-index l.prefixes))
