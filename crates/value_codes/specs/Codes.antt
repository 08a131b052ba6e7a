-- Numbers in place of the values of a list: two values are the same exactly where their numbers are equal.
use Rattle.std.specs.Prelude.{◌≡◌, ℕ, ◌<◌, List, length, get_or, nat_eq}
use Rattle.edm_values.specs.declared.Value.{Value}
use Rattle.edm_values.specs.Values.{same_value, value_in}

-- a number for each value, and one that is above all of them
pub record CodeList : Type 0 where
  pub codes : List ℕ
  pub bound : ℕ

-- they are those of these values
pub record AreCodes (vs : List Value) (c : CodeList) : Type 0 where
  pub size : length c.codes ≡ length vs
  pub same : (i j : ℕ) → i < length vs → j < length vs → same_value (value_in vs i) (value_in vs j) ≡ nat_eq (get_or c.codes i 0) (get_or c.codes j 0)
