use Rattle.std.proofs.Common.{ℕ, ◌<◌, get_or}
use Rattle.row_frames.specs.Related.{IsOfSet}
use Rattle.row_frames.specs.declared.tables.Table.{Table}
use Rattle.row_frames.proofs.related.are_of_set.Given as goal

-- the tables so far have entities of the set alone
abbrev pub invariant-loop-table : goal.invariant-loop-table
invariant-loop-table l = (j : ℕ) (d : Table) → j < l.table-index → IsOfSet l.set (get_or l.tables j d)
