use Rattle.std.proofs.Common.{◌≡◌, ◌++◌, map, take}
use Rattle.row_frames.proofs.joins.push_pick.Given as goal

abbrev pub invariant-loop-place : goal.invariant-loop-place
invariant-loop-place l = l.all.items ≡ l.fn.all.items ++ map (λ o. l.fn.pick) (take l._place-index l.times)
