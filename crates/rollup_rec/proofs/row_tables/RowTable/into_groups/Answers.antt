use Rattle.std.proofs.Common.{◌≡◌, ℕ, List, map, subst}
use Rattle.std.proofs.lemmas.Result.{IfOk-weaker}
use Rattle.edm_values.specs.declared.Value.{Value}
use Rattle.aggregate_ops.specs.KeyTables.{groups_of}
use Rattle.rollup_rec.specs.RowTables.{IsRowTableOf, RowTableState, keyed_rows}
use Rattle.rollup_rec.proofs.row_tables.RowTable.into_groups.Goals as goal

abbrev Gives : RowTableState → List (List Value × List ℕ) → Type 0
Gives s groups = (xs : List (ℕ × ℕ)) → IsRowTableOf s xs → groups ≡ groups_of (keyed_rows s.keys (map (λ x. x.0) xs))

pub returns : goal.returns
returns c = IfOk-weaker c.into_groups.result _ (Gives c.args.self) (λ groups given. subst (λ s. Gives s groups) c.self.view_is (λ xs h. given _ h.table_is)) c.into_groups.ensures.value
