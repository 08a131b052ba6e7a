use Rattle.std.proofs.Common.{◌≡◌, map, take}
use Rattle.row_frames.specs.Runs.{run_rows}
use Rattle.row_frames.proofs.picks.Run.picks.Given as goal

abbrev pub invariant-loop-k : goal.invariant-loop-k
invariant-loop-k l = l.picks.items ≡ map (λ x. x) (take l.k (run_rows l.self))
