-- Numbers of codes in order of first appearance: the words of this crate's own contracts.
use Rattle.std.specs.Prelude.{◌≡◌, ℕ, ◌+◌, ◌*◌, ◌<◌, ◌≤◌, ◌⊎◌, Bool, ◌&&◌, All, List, length, get_or, map, nat_eq, slice_get, Some}
use Rattle.edm_values.specs.Lists.{distinct, places}

-- what stands in a list of numbers where there is none
abbrev pub no_number : ℕ
no_number = 4294967295

-- the codes that have a number, each at the place of its number
pub record IndexState : Type 0 where
  pub heads : List ℕ

-- a list has at each code that has a number this number, and else none
pub record IsIndex (heads table : List ℕ) : Type 0 where
  pub few : length heads ≤ no_number
  pub back : (c : ℕ) → c < length table → (get_or table c 0 ≡ no_number) ⊎ (slice_get heads (get_or table c 0) ≡ Some c)
  pub forth : (j c : ℕ) → slice_get heads j ≡ Some c → (c < length table) × (get_or table c 0 ≡ j)

-- these are the codes of the numbers
abbrev pub AreTold : List ℕ → List ℕ → List ℕ → Type 0
AreTold heads numbers codes = map (slice_get heads) numbers ≡ map Some codes

-- numbers of codes, and the code of each number
pub record FoundState : Type 0 where
  pub heads : List ℕ
  pub numbers : List ℕ

-- they stand for a list of codes
pub record AreFoundIn (s : FoundState) (xs : List (ℕ × ℕ)) : Type 0 where
  pub count_is : length s.numbers ≡ length xs
  pub heads_are : s.heads ≡ distinct nat_eq (map (λ x. x.0) xs)
  pub told : AreTold s.heads s.numbers (map (λ x. x.0) xs)

-- each code may be added
abbrev pub IsCode : Unit {0} → ℕ → Type 0
IsCode kind code = Unit {0}

-- rows have numbers in order of first appearance, and two have one number where the test says so
pub record AreNumbersBy (same : ℕ → ℕ → Bool) (rows : ℕ) (numbers : List ℕ) (count : ℕ) : Type 0 where
  pub size : length numbers ≡ rows
  pub there : All (λ n. n < count) numbers
  pub order : distinct nat_eq numbers ≡ places count
  pub told : (i j : ℕ) → i < rows → j < rows → nat_eq (get_or numbers i 0) (get_or numbers j 0) ≡ same i j

-- two rows have one code
abbrev pub same_code : List ℕ → ℕ → ℕ → Bool
same_code codes i j = nat_eq (get_or codes i 0) (get_or codes j 0)

-- two rows have one code in each of two lists
abbrev pub same_pair : List ℕ → List ℕ → ℕ → ℕ → Bool
same_pair firsts seconds i j = same_code firsts i j && same_code seconds i j

-- each number stands for a pair, as a number of two digits
pub record ArePairs (firsts seconds : List ℕ) (bound : ℕ) (pairs : List ℕ) : Type 0 where
  pub size : length pairs ≡ length seconds
  pub are : (i : ℕ) → i < length seconds → get_or pairs i 0 ≡ get_or firsts i 0 * bound + get_or seconds i 0
