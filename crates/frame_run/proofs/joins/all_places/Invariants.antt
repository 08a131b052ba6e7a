use Rattle.std.proofs.Common.{◌≡◌, ℕ, map, take}
use Rattle.std.specs.Global.{Vec}
use Rattle.row_frames.specs.Related.{placed}
use Rattle.frame_run.specs.HeldRows.{rows_of}
use Rattle.frame_run.proofs.joins.all_places.Given as goal

-- the lists of places so far are those of what was looked at
abbrev pub invariant-loop-held : goal.invariant-loop-held
invariant-loop-held l = map (λ (v : Vec ℕ). map (placed l.set) v.items) l.all.items ≡ map rows_of (take l.held-index l.results)
