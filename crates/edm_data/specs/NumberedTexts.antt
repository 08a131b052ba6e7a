-- Texts of a list that are kept once each: a pool of texts, and a number for each text of the list.
use Rattle.std.specs.Prelude.{◌≡◌, ℕ, ◌<◌, List, [], length, get_or, map, nat_eq}
use Rattle.edm_values.specs.declared.Value.{Value}
use Rattle.edm_values.specs.Lists.{same_text}

-- the texts that occur, and for each text of the list the place of one of these
pub record NumberedList : Type 0 where
  pub pool : List (List ℕ)
  pub numbers : List ℕ

-- the texts of the list
abbrev pub numbered_texts : NumberedList → List (List ℕ)
numbered_texts l = map (λ n. get_or l.pool n []) l.numbers

-- the texts of the list, as values
abbrev pub numbered_values : NumberedList → List Value
numbered_values l = map Value.Text (numbered_texts l)

-- no text stands in the pool twice
abbrev pub IsPool : List (List ℕ) → Type 0
IsPool pool = (i j : ℕ) → i < length pool → j < length pool → same_text (get_or pool i []) (get_or pool j []) ≡ nat_eq i j
