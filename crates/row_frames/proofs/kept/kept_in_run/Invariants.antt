use Rattle.std.proofs.Common.{length}
use Rattle.std.specs.List.{All}
use Rattle.row_frames.specs.Answers.{answer_of}
use Rattle.row_frames.specs.Frames.{read_at, IsReadable}
use Rattle.row_frames.specs.Runs.{run_rows}
use Rattle.row_frames.proofs.KeptLemmas.{KeptSoFar}
use Rattle.row_frames.proofs.kept.kept_in_run.Given as goal

-- what is kept so far of the rows before those that are left
abbrev pub invariant-loop-alloc : goal.invariant-loop-alloc
invariant-loop-alloc l = All (IsReadable l.readers) (run_rows l.rest) × KeptSoFar (λ x. answer_of (read_at l.readers x)) (run_rows l.fn.run) (run_rows l.rest) l.kept.items

abbrev pub decreases-loop-alloc : goal.decreases-loop-alloc
decreases-loop-alloc l = length (run_rows l.rest)
