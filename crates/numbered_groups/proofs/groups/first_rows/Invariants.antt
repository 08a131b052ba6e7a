use Rattle.numbered_groups.proofs.FirstLemmas.{AreFirstsTo}
use Rattle.numbered_groups.proofs.groups.first_rows.Given as goal

-- the rows so far, and the first one of each of their numbers
abbrev pub invariant-loop-row : goal.invariant-loop-row
invariant-loop-row l = AreFirstsTo l.numbers l.firsts.items l.row
