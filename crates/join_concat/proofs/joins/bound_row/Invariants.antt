use Rattle.std.proofs.Common.{◌≡◌, ◌+◌, length, map, take}
use Rattle.apply_meaning.specs.Meaning.{beside}
use Rattle.join_concat.proofs.joins.bound_row.Given as goal

-- the rows so far, each of which was a step
abbrev pub invariant-loop-other : goal.invariant-loop-other
invariant-loop-other g l = (l.made.items ≡ map (beside l.alias l.row) (take l.other-index l.results)) × (l.steps ≡ l.fn.steps + l.other-index) × (length l.made.items ≡ l.other-index)
