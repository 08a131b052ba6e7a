use Rattle.std.proofs.Common.{◌≡◌, map, take}
use Rattle.row_frames.specs.Frames.{picked}
use Rattle.row_frames.specs.Related.{placed}
use Rattle.row_frames.proofs.related.picked_places.Given as goal

abbrev pub invariant-loop-k : goal.invariant-loop-k
invariant-loop-k l = map (placed l.set) l.places.items ≡ map (picked l.tables) (take l.k l.picks)
