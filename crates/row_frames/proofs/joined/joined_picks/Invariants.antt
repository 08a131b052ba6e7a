use Rattle.std.proofs.Common.{◌≡◌, ◌++◌, map, take}
use Rattle.row_frames.specs.Joined.{shifted}
use Rattle.row_frames.proofs.joined.joined_picks.Given as goal

abbrev pub invariant-loop-other : goal.invariant-loop-other
invariant-loop-other l = l.all.items ≡ l.fn.picks.items ++ map (shifted l.by) (take l.other-index l.others)
