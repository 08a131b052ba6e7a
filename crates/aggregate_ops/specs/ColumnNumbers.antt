-- What is kept of the numbers of key lists in columns, and when it stands for a list of their places.
use Rattle.std.specs.Prelude.{◌≡◌, ℕ, ◌<◌, List, length, map}
use Rattle.std.specs.Global.{Vec}
use Rattle.std.specs.List.{All}
use Rattle.edm_values.specs.declared.Seen.{Seen}
use Rattle.aggregate_ops.specs.Columns.{key_at}
use Rattle.aggregate_ops.specs.Numbers.{key_number}

-- the columns, and numbers of key lists in them
pub record NumbersState : Type 0 where
  pub columns : List (Vec Seen)
  pub numbers : List ℕ

-- each column has a value at the place
abbrev pub IsIn : List (Vec Seen) → ℕ → Type 0
IsIn columns at = All (λ c. at < length c.items) columns

-- the numbers are those of the key lists at the places of a list
pub record AreNumbersAt (s : NumbersState) (xs : List (ℕ × ℕ)) : Type 0 where
  pub count_is : length s.numbers ≡ length xs
  pub are : s.numbers ≡ map (λ x. key_number (key_at s.columns x.0)) xs
