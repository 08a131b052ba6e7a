use Rattle.std.proofs.Common.{◌≡◌, ◌+◌, ◌≤◌, take}
use Rattle.row_frames.specs.Frames.{all_picked}
use Rattle.row_frames.proofs.picks.picked_rows.Given as goal

abbrev pub invariant-loop-pick : goal.invariant-loop-pick
invariant-loop-pick g l = (l.made.items ≡ all_picked l.tables (take l.pick-index l.picks)) × (l.steps ≤ l.fn.steps + l.pick-index) × (l.fn.steps ≤ l.steps)
