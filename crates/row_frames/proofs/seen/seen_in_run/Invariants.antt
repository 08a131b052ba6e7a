use Rattle.std.proofs.Common.{◌≡◌, ◌++◌, length, map}
use Rattle.std.specs.List.{All}
use Rattle.edm_values.specs.Values.{seen_value}
use Rattle.row_frames.specs.Frames.{read_at, IsReadable}
use Rattle.row_frames.specs.Runs.{run_rows}
use Rattle.row_frames.proofs.seen.seen_in_run.Given as goal

-- those so far, and those of the rows that are left
abbrev pub invariant-loop-alloc : goal.invariant-loop-alloc
invariant-loop-alloc l = All (IsReadable l.readers) (run_rows l.rest) × (map (λ v. seen_value v) l.found.items ++ map (read_at l.readers) (run_rows l.rest) ≡ map (read_at l.readers) (run_rows l.fn.run))

abbrev pub decreases-loop-alloc : goal.decreases-loop-alloc
decreases-loop-alloc l = length (run_rows l.rest)
