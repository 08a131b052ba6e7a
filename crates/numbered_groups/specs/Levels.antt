-- Groups of rows by the codes of columns, and by those of the first of them: the words of this crate's own contracts.
use Rattle.std.specs.Prelude.{◌≡◌, ℕ, ◌+◌, ◌-◌, ◌<◌, Bool, true, ◌&&◌, List, [], ◌∷◌, length, get_or, take}
use Rattle.value_codes.specs.Codes.{CodeList}
use Rattle.numbered_groups.specs.Found.{AreNumbersBy, same_code}
use Rattle.numbered_groups.specs.Numbered.{Numbering, no_numbering}

-- a row of each number
pub record AreFirsts (numbers : List ℕ) (count : ℕ) (firsts : List ℕ) : Type 0 where
  pub size : length firsts ≡ count
  pub there : (j : ℕ) → j < count → get_or firsts j 0 < length numbers
  pub are : (j : ℕ) → j < count → get_or numbers (get_or firsts j 0) 0 ≡ j

-- two rows have one code in each column
abbrev pub same_at : List CodeList → ℕ → ℕ → Bool
same_at [] i j = true
same_at (c ∷ cs) i j = same_code c.codes i j && same_at cs i j

-- rows are told by numbers, and each number has a row
pub record IsNumberingBy (same : ℕ → ℕ → Bool) (rows : ℕ) (n : Numbering) : Type 0 where
  pub numbers_are : AreNumbersBy same rows n.numbers (length n.firsts)
  pub firsts_are : AreFirsts n.numbers (length n.firsts) n.firsts

-- the numbers of rows by the first columns, for each number of these from `least` to before `end`
pub record AreLevelsTo (least end : ℕ) (columns : List CodeList) (rows : ℕ) (found : List Numbering) : Type 0 where
  pub count : length found ≡ end - least
  pub each : (k : ℕ) → k < length found → IsNumberingBy (same_at (take (least + k) columns)) rows (get_or found k no_numbering)

-- the same from `end` down to `least`
pub record AreLevelsDown (least width : ℕ) (columns : List CodeList) (rows : ℕ) (found : List Numbering) : Type 0 where
  pub count : length found ≡ width + 1 - least
  pub each : (k : ℕ) → k < length found → IsNumberingBy (same_at (take (width - k) columns)) rows (get_or found k no_numbering)
