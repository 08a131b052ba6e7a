use Rattle.std.specs.Vec.Iter.{into_iter_items}
use Rattle.row_frames.proofs.BesideLemmas.{BesideSoFar}
use Rattle.row_frames.proofs.joins.beside_tables.Given as goal

-- the tables so far, whatever those that are left come to
abbrev pub invariant-loop-table : goal.invariant-loop-table
invariant-loop-table l = BesideSoFar l.prefix l.fn.tables.items l.made.items (into_iter_items l.table-iterator)
