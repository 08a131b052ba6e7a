-- What is kept of the key lists at places of columns, and when it stands for a list of these places.
use Rattle.std.specs.Prelude.{◌≡◌, ℕ, ◌<◌, ◌≤◌, List, length, map}
use Rattle.std.specs.Global.{Vec}
use Rattle.std.specs.List.{All}
use Rattle.edm_values.specs.declared.Seen.{Seen}
use Rattle.edm_values.specs.declared.Value.{Value}
use Rattle.aggregate_ops.specs.Columns.{key_at, key_rows}
use Rattle.aggregate_ops.specs.KeyTables.{ArePlacesOf, TableState}
use Rattle.aggregate_ops.specs.Numbers.{key_number}

-- the numbers of as many key lists of the columns
pub record AreNumbersOf (columns : List (Vec Seen)) (numbers : List ℕ) : Type 0 where
  pub long : All (λ c. length numbers ≤ length c.items) columns
  pub are : numbers ≡ map key_number (key_rows columns (length numbers))

-- the columns, how many key lists of them have a number, and the table of those that were added
pub record PlacedState : Type 0 where
  pub columns : List (Vec Seen)
  pub rows : ℕ
  pub table : TableState

-- what tells such tables apart: the columns, how many key lists of them have a number, and how many values a key of the table has
pub record PlacedKind : Type 0 where
  pub columns : List (Vec Seen)
  pub rows : ℕ
  pub width : ℕ

-- the key lists at these places of the columns, with the places that they have in a list
abbrev pub placed_rows : List (Vec Seen) → List (ℕ × ℕ) → List (List Value × ℕ)
placed_rows columns xs = map (λ x. (key_at columns x.0, x.1)) xs

-- the key list at the place has a number, and a key has a value of each column
pub record IsPlaceOf (k : PlacedKind) (at : ℕ) : Type 0 where
  pub there : at < k.rows
  pub wide : length k.columns ≡ k.width

-- it stands for a list of places of the columns
pub record ArePlacedOf (s : PlacedState) (xs : List (ℕ × ℕ)) : Type 0 where
  pub count_is : s.table.count ≡ length xs
  pub table_is : ArePlacesOf s.table (placed_rows s.columns xs)
