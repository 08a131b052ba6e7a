use Rattle.std.proofs.Common.{◌≡◌, map, take}
use Rattle.row_frames.proofs.computed.picked_numbers.Given as goal

abbrev pub invariant-loop-pick : goal.invariant-loop-pick
invariant-loop-pick l = l.rows.items ≡ map (λ x. x.row) (take l.pick-index l.picks)
