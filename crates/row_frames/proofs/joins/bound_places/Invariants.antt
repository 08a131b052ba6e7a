use Rattle.std.proofs.Common.{◌≡◌, map, take}
use Rattle.row_frames.specs.Beside.{all_beside}
use Rattle.row_frames.proofs.joins.bound_places.Given as goal

abbrev pub invariant-loop-places : goal.invariant-loop-places
invariant-loop-places l = l.all.items ≡ all_beside l.outer (map (λ v. v.items) (take l.places-index l.inner))
