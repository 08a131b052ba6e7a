use Rattle.std.proofs.Common.{◌≡◌, map, take}
use Rattle.row_frames.specs.Frames.{place_in}
use Rattle.row_frames.proofs.gathered.root_places.Given as goal

abbrev pub invariant-loop-row : goal.invariant-loop-row
invariant-loop-row l = l.made.items ≡ map (place_in l.roots) (take l.row-index l.rows)
