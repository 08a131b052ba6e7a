use Rattle.std.proofs.Common.{◌≡◌, map, take}
use Rattle.row_frames.specs.Frames.{read_at}
use Rattle.row_frames.proofs.seen.values_in_turn.Given as goal

-- those so far
abbrev pub invariant-loop-pick : goal.invariant-loop-pick
invariant-loop-pick l = l.found.items ≡ map (read_at l.readers) (take l.pick-index l.picks)
