use Rattle.std.proofs.Common.{◌≡◌, vec_len}
use Rattle.edm_data.specs.Columns.{AreColumns}
use Rattle.edm_data.proofs.entities.empty_table.Given as goal

abbrev pub invariant-loop-p : goal.invariant-loop-p
invariant-loop-p l = record { len : vec_len l.columns ≡ l.p-index; empty : AreColumns l.columns.items 0 }
