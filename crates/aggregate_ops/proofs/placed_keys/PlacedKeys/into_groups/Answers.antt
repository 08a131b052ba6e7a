use Rattle.std.proofs.Common.{◌≡◌, ℕ, List, subst}
use Rattle.std.proofs.lemmas.Result.{IfOk-weaker}
use Rattle.edm_values.specs.declared.Value.{Value}
use Rattle.aggregate_ops.specs.KeyTables.{groups_of}
use Rattle.aggregate_ops.specs.PlacedKeys.{ArePlacedOf, PlacedState, placed_rows}
use Rattle.aggregate_ops.proofs.placed_keys.PlacedKeys.into_groups.Goals as goal

abbrev Gives : PlacedState → List (List Value × List ℕ) → Type 0
Gives s groups = (xs : List (ℕ × ℕ)) → ArePlacedOf s xs → groups ≡ groups_of (placed_rows s.columns xs)

pub returns : goal.returns
returns c = IfOk-weaker c.into_groups.result _ (Gives c.args.self) (λ groups given. subst (λ s. Gives s groups) c.self.view_is (λ xs h. given _ h.table_is)) c.into_groups.ensures.value
