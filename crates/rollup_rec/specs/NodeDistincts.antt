-- Rows whose values are told by numbers, by which distinct values are counted.
use Rattle.std.specs.Prelude.{◌≡◌, ℕ, ◌<◌, Bool, false, List, get_or, length}
use Rattle.std.specs.List.{list_any}
use Rattle.edm_values.specs.declared.Value.{Value}
use Rattle.edm_values.specs.Values.{is_beyond, is_null, value_in}
use Rattle.value_codes.specs.Codes.{AreCodes, CodeList}

-- of each number that a row has, whether the row's value is null
abbrev pub AreNullsOf : List Value → List ℕ → List Bool → Type 0
AreNullsOf vs numbers nulls = (i : ℕ) → i < length vs → get_or nulls (get_or numbers i 0) false ≡ is_null (value_in vs i)

-- two rows have the same value exactly where they have one number; of each number it is told whether its value is null, and no value is past its range
pub record AreToldBy (vs : List Value) (codes : CodeList) (nulls : List Bool) : Type 0 where
  pub codes_are : AreCodes vs codes
  pub nulls_are : AreNullsOf vs codes.codes nulls
  pub within : list_any is_beyond vs ≡ false
