use Rattle.std.proofs.Common.{ℕ, ◌<◌, get_or}
use Rattle.row_frames.specs.Frames.{instance_at}
use Rattle.row_frames.specs.Own.{IsOwn}
use Rattle.row_frames.specs.declared.tables.Table.{Table}
use Rattle.row_frames.proofs.own.property_of.Given as goal

-- the path is the property in the tables so far
abbrev pub invariant-loop-table : goal.invariant-loop-table
invariant-loop-table l = (j : ℕ) (d : Table) → j < l.table-index → (k : ℕ) → IsOwn l.store l.path l.set l.p.at (instance_at (get_or l.tables j d) k)
