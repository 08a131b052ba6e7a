use Rattle.std.proofs.Common.{◌≡◌, map, take}
use Rattle.edm_values.specs.Values.{seen_value}
use Rattle.row_frames.specs.Frames.{owner, place_in}
use Rattle.row_frames.specs.Told.{told_at}
use Rattle.row_frames.proofs.told.told_values.Given as goal

-- those so far
abbrev pub invariant-loop-row : goal.invariant-loop-row
invariant-loop-row l = map (λ v. seen_value v) l.found.items ≡ map (λ x. told_at l.told (owner l.leaf (place_in l.roots x.row))) (take l.row-index l.rows)
