use Rattle.std.proofs.Common.{◌≤◌, map, take}
use Rattle.std.specs.Prelude.{slice_index}
use Rattle.rollup_rec.proofs.DistinctMarks.{IsMarked}
use Rattle.rollup_rec.proofs.distincts.distinct_among.Given as goal

-- the numbers of the rows so far are marked
abbrev pub invariant-loop-row : goal.invariant-loop-row
invariant-loop-row l = IsMarked l.nulls l.stamp (map (λ r. slice_index l.told r) (take l.row-index l.rows)) l.marks.items l.found × (l.found ≤ l.row-index)
