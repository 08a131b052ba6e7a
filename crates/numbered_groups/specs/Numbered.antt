-- Groups that are told by numbers: each row has the number of its group, and each group its first row.
use Rattle.std.specs.Prelude.{◌≡◌, ℕ, ◌+◌, ◌-◌, ◌<◌, List, [], length, filter, get_or, map, nat_eq, take}
use Rattle.edm_values.specs.declared.Value.{Value}
use Rattle.edm_values.specs.Lists.{places}
use Rattle.edm_values.specs.Values.{value_in}
use Rattle.par_stages.specs.Placed.{placed}
use Rattle.value_codes.specs.Codes.{AreCodes, CodeList}
use Rattle.aggregate_ops.specs.KeyTables.{groups_of}

-- the number of each row's group, counted from 0 in order of first appearance, and the first row of each group
pub record Numbering : Type 0 where
  pub numbers : List ℕ
  pub firsts : List ℕ

-- the rows that have a number, ascending
abbrev pub places_with : List ℕ → ℕ → List ℕ
places_with numbers j = map (λ x. x.1) (filter (λ x. nat_eq x.0 j) (placed 0 numbers))

-- the key and the rows of group j
abbrev pub numbered_group : List (List Value) → Numbering → ℕ → List Value × List ℕ
numbered_group keys n j = (get_or keys (get_or n.firsts j 0) [], places_with n.numbers j)

-- these are the groups of the rows' key lists
pub record AreNumbered (keys : List (List Value)) (n : Numbering) : Type 0 where
  pub size : length n.numbers ≡ length keys
  pub groups : groups_of (placed 0 keys) ≡ map (numbered_group keys n) (places (length n.firsts))

-- no numbers
abbrev pub no_codes : CodeList
no_codes = record { codes = []; bound = 0 }

-- the values that each key list has at a place are told by the numbers at this place, and a key list has no other values
pub record AreKeyCodes (keys : List (List Value)) (codes : List CodeList) : Type 0 where
  pub wide : (k : ℕ) → k < length keys → length (get_or keys k []) ≡ length codes
  pub columns : (c : ℕ) → c < length codes → AreCodes (map (λ k. value_in k c) keys) (get_or codes c no_codes)

-- no groups
abbrev pub no_numbering : Numbering
no_numbering = record { numbers = []; firsts = [] }

-- these are the groups by the first values of the key lists, for each number of these from `width` down to `least`
pub record AreNumberedLevels (least width : ℕ) (keys : List (List Value)) (found : List Numbering) : Type 0 where
  pub count : length found ≡ width + 1 - least
  pub each : (k : ℕ) → k < length found → AreNumbered (map (take (width - k)) keys) (get_or found k no_numbering)
