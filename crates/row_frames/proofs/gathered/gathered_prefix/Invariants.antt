use Rattle.std.proofs.Common.{◌≡◌, map, take}
use Rattle.row_frames.specs.Frames.{bound_place}
use Rattle.row_frames.proofs.gathered.gathered_prefix.Given as goal

abbrev pub invariant-loop-row : goal.invariant-loop-row
invariant-loop-row l = l.places.items ≡ map (λ r. bound_place r l.prefix) (take l.row-index l.rows)
