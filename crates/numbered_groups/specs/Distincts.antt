-- Numbers in place of values, of which those that are null are skipped by counts of distinct values.
use Rattle.std.specs.Prelude.{◌≡◌, ℕ, Bool, List, length, map}
use Rattle.edm_values.specs.declared.Value.{Value}
use Rattle.edm_values.specs.Values.{is_null, same_value, value_in}
use Rattle.numbered_groups.specs.Levels.{IsNumberingBy}
use Rattle.numbered_groups.specs.Numbered.{Numbering}

-- the values at two places are the same
abbrev pub same_values : List Value → ℕ → ℕ → Bool
same_values vs i j = same_value (value_in vs i) (value_in vs j)

-- rows are told by the numbers of their values, and each number has the first row that has its value
abbrev pub AreNumberedValues : List Value → Numbering → Type 0
AreNumberedValues vs n = IsNumberingBy (same_values vs) (length vs) n

-- of each number, whether its value is null
abbrev pub AreToldNulls : List Value → Numbering → List Bool → Type 0
AreToldNulls vs n nulls = nulls ≡ map (λ f. is_null (value_in vs f)) n.firsts
