use Rattle.std.proofs.Common.{◌≡◌, map, take}
use Rattle.row_frames.specs.Frames.{first_pick}
use Rattle.row_frames.proofs.picks.place_picks.Given as goal

abbrev pub invariant-loop-row : goal.invariant-loop-row
invariant-loop-row l = l.picks.items ≡ map first_pick (take l.row-index l.at)
