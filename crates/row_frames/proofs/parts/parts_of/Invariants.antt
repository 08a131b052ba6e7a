use Rattle.std.proofs.Common.{◌≡◌, ◌++◌, length}
use Rattle.std.specs.List.{flat_map}
use Rattle.row_frames.specs.Runs.{part_rows}
use Rattle.row_frames.proofs.parts.parts_of.Given as goal

-- the parts so far, and the rows that are left
abbrev pub invariant-loop-rest : goal.invariant-loop-rest
invariant-loop-rest l = flat_map part_rows l.parts.items ++ part_rows l.rest ≡ l.fn.picks

abbrev pub decreases-loop-rest : goal.decreases-loop-rest
decreases-loop-rest l = length (part_rows l.rest)
