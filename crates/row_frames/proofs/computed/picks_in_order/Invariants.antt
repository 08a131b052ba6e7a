use Rattle.std.proofs.Common.{◌≡◌, take}
use Rattle.row_frames.specs.Gathered.{in_order}
use Rattle.row_frames.proofs.computed.picks_in_order.Given as goal

abbrev pub invariant-loop-k : goal.invariant-loop-k
invariant-loop-k l = l.made.items ≡ in_order 0 (take l.k l.picks)
