use Rattle.std.proofs.Common.{◌≡◌, take}
use Rattle.edm_data.proofs.tables.Tables.packed.Given as goal

abbrev pub invariant-loop-table : goal.invariant-loop-table
invariant-loop-table l = l.packed.items ≡ take l.table-index l.table-items
