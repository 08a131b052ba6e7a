-- Lists of which only the elements that are something are kept, each beside its place.
use Rattle.std.specs.Prelude.{ℕ, ◌≡◌, ◌<◌, ◌≤◌, List, length, get_or, slice_get, nat_eq, position, map, Option, option_and_then, unwrap_or}
use Rattle.std.specs.List.{AllByRecursion}
use Rattle.edm_values.specs.Lists.{places}
use Rattle.edm_values.specs.Values.{value_in}
use Rattle.edm_values.specs.declared.Value.{Value}

-- the values of a property, entity by entity
abbrev pub ValueList : Type 0
ValueList = List Value

-- each place is below this one
abbrev pub AreBelow : ℕ → List ℕ → Type 0
AreBelow n at = (i : ℕ) → i < length at → get_or at i 0 < n

-- each place is above those before it
abbrev pub AreRising : List ℕ → Type 0
AreRising at = (i j : ℕ) → i < j → j < length at → get_or at i 0 < get_or at j 0

-- the element that is kept for a place, if there is one
abbrev pub kept_at : {X : Type 0} → List ℕ → List X → ℕ → Option X
kept_at at xs k = option_and_then (slice_get xs) (position (nat_eq k) at)

-- what is kept for each of the first n places
abbrev pub kept : {X : Type 0} → List ℕ → List X → ℕ → List (Option X)
kept at xs n = map (kept_at at xs) (places n)

-- the value that is kept, or else null
abbrev pub value_or_null : Option Value → Value
value_or_null o = unwrap_or o Value.Null

-- the first n values of a column, of which those that are not null are kept
abbrev pub column_values : List ℕ → List Value → ℕ → List Value
column_values at vs n = map value_or_null (kept at vs n)

-- places below a number, with an element for each
pub record AreKept {X : Type 0} (at : List ℕ) (xs : List X) (n : ℕ) : Type 0 where
  pub below : AreBelow n at
  pub enough : length at ≤ length xs

-- ---- tables

-- rows of values, and how many values each has
pub record Grid : Type 0 where
  pub width : ℕ
  pub rows : List ValueList

-- the row at a place of columns
abbrev pub row_at : List ValueList → ℕ → ValueList
row_at columns k = map (λ c. value_in c k) columns

-- the first n rows of columns
abbrev pub grid_of : List ValueList → ℕ → Grid
grid_of columns n = record { width = length columns; rows = map (row_at columns) (places n) }

-- each column has a value for each of n rows
abbrev pub AreColumns : List ValueList → ℕ → Type 0
AreColumns columns n = AllByRecursion (λ c. length c ≡ n) columns
