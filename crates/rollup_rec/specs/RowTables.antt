-- What a table of the key lists of rows keeps of a list of the rows' places, and when it stands for it.
use Rattle.std.specs.Prelude.{◌≡◌, ℕ, List, [], length, map, slice_index_or}
use Rattle.edm_values.specs.declared.Value.{Value}
use Rattle.aggregate_ops.specs.KeyTables.{TableState, ArePlacesOf}

-- the rows at these places, each with its key list
abbrev pub keyed_rows : List (List Value) → List ℕ → List (List Value × ℕ)
keyed_rows keys rows = map (λ r. (slice_index_or keys r [], r)) rows

-- what is kept: the key lists of all rows, and the table of those of the rows that were added
pub record RowTableState : Type 0 where
  pub keys : List (List Value)
  pub table : TableState

-- it stands for a list of the places of rows
pub record IsRowTableOf (s : RowTableState) (xs : List (ℕ × ℕ)) : Type 0 where
  pub count_is : s.table.count ≡ length xs
  pub table_is : ArePlacesOf s.table (keyed_rows s.keys (map (λ x. x.0) xs))
