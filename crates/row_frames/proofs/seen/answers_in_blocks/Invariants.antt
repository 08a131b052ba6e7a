use Rattle.std.proofs.Common.{◌≡◌, ◌++◌, length, map}
use Rattle.std.specs.List.{All}
use Rattle.row_frames.specs.Answers.{answer_of}
use Rattle.row_frames.specs.Frames.{read_at, IsReadable}
use Rattle.row_frames.proofs.seen.answers_in_blocks.Given as goal

-- those so far, and those of the rows that are left
abbrev pub invariant-loop-rest : goal.invariant-loop-rest
invariant-loop-rest l = All (IsReadable l.readers) l.rest × (l.found.items ++ map (λ x. answer_of (read_at l.readers x)) l.rest ≡ map (λ x. answer_of (read_at l.readers x)) l.initial.rest)

abbrev pub decreases-loop-rest : goal.decreases-loop-rest
decreases-loop-rest l = length l.rest
