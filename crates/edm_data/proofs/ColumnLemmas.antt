-- Lists of which only the elements that are something are kept.
use Rattle.std.proofs.Common.{◌≡◌, ℕ, zero, suc, ◌+◌, ◌-◌, ◌<◌, ◌≤◌, Bool, true, false, List, [], ◌∷◌, ◌++◌, length, get_or, map, nat_eq, refl, sym, ◌∙◌, ap, arith, ⊎_elim, Some, None, Ok, Err, add-one, length-append}
use Rattle.std.specs.declared.option.Option.{Option}
use Rattle.std.specs.Prelude.{Result, MatchResult}
use Rattle.std.specs.Ordering.{nat_cmp}
use Rattle.std.specs.List.Sorted.{IsBinarySearchResult}
use Rattle.std.proofs.lemmas.List.Sorted.{searched}
use Rattle.std.specs.Option.{option_and_then, option_map, unwrap_or}
use Rattle.std.specs.List.{position, position_or_len, slice_get}
use Rattle.std.proofs.lemmas.List.Sums.{position_or_len_is}
use Rattle.std.proofs.lemmas.List.Quantifiers.{position-Some}
use Rattle.std.proofs.lemmas.List.{map-append, get_or_append_left, length-map}
use Rattle.std.proofs.Math.Seq.{get_or-append_seam}
use Rattle.std.proofs.lemmas.Option.{slice_get_read, get_or_from_slice_get, slice_get-map, slice_get-get_or, slice_get_past}
use Rattle.std.proofs.lemmas.Bool.{cases_lt, lt-ltb}
use Rattle.std.proofs.lemmas.Bool.Decides.{nat_tests}
use Rattle.edm_values.specs.Lists.{places}
use Rattle.edm_values.specs.Values.{value_in}
use Rattle.edm_values.specs.declared.Value.{Value}
use Rattle.edm_data.proofs.KeyOrderLemmas.{position-push}
use Rattle.edm_data.specs.Columns.{AreBelow, AreRising, kept_at, kept, value_or_null, column_values}
use Rattle.edm_values.proofs.TopPlaces.{length-places, map-places}
use Rattle.edm_values.proofs.OptionFacts.{first_some-None}
use Rattle.edm_values.proofs.ListFacts.{slice_get-last}
use Rattle.edm_values.proofs.SearchFacts.{position-absent}
use Rattle.edm_values.proofs.PlaceFacts.{map-agree_places}
use Rattle.edm_data.proofs.PlaceLemmas.{get_or-places, slice_get-push_before}

-- ---- the first place at which a test passes

pub position-here : {X : Type 0} (p : X → Bool) (xs : List X) (i : ℕ) (d : X) → i < length xs → ((k : ℕ) → k < i → p (get_or xs k d) ≡ false) → p (get_or xs i d) ≡ true → position p xs ≡ Some i
position-here p xs i d within before here =
    let at : position_or_len p xs ≡ i = position_or_len_is p xs i d (omega arith) before (λ _. here) in
    rw (at, lt-ltb i (length xs) within) refl

other : (a b : ℕ) → b < a → nat_eq a b ≡ false
other a b h = grind (arith, nat_tests)

above : (a b : ℕ) → a < b → nat_eq a b ≡ false
above a b h = grind (arith, nat_tests)

same : (a b : ℕ) → b ≡ a → nat_eq a b ≡ true
same a b h = grind (arith, nat_tests)

-- ---- a place among places that rise

pub found-rising : (at : List ℕ) (i k : ℕ) → AreRising at → i < length at → get_or at i 0 ≡ k → position (nat_eq k) at ≡ Some i
found-rising at i k rising within here = position-here (nat_eq k) at i 0 within (λ j less. other k (get_or at j 0) (let e = rising j i less within in omega (arith, e, here))) (same k (get_or at i 0) here)

-- the element at a place, whatever stands for none
pub read_at : (at : List ℕ) (i x d : ℕ) → i < length at → x ≡ get_or at i x → get_or at i d ≡ x
read_at at i x d within item = get_or_from_slice_get at i x d (slice_get_read at (length at) i x refl within item)

found_by : (at : List ℕ) (k : ℕ) (r : Result ℕ ℕ) → AreRising at → IsBinarySearchResult (λ y. nat_cmp y k) at r → MatchResult r (λ i. (i < length at) × (get_or at i 0 ≡ k)) (λ i. (i ≤ length at) × ((j : ℕ) → j < i → get_or at j 0 < k) × ((j : ℕ) → i ≤ j → j < length at → k < get_or at j 0))
found_by at k r rising search = searched at k r search (λ i j less within. ⊎_elim (λ below. let e = rising i j below within in omega (arith, e)) (λ more. let e : i ≡ j = omega arith in rw e (omega arith)) (cases_lt i j))

pub found-search : (at : List ℕ) (k i : ℕ) (r : Result ℕ ℕ) → AreRising at → r ≡ Ok i → IsBinarySearchResult (λ y. nat_cmp y k) at r → position (nat_eq k) at ≡ Some i
found-search at k i r rising is search =
    let here : (i < length at) × (get_or at i 0 ≡ k) = rw is at (found_by at k r rising search) in
    found-rising at i k rising here.0 here.1

pub none-search : (at : List ℕ) (k i : ℕ) (r : Result ℕ ℕ) → AreRising at → r ≡ Err i → IsBinarySearchResult (λ y. nat_cmp y k) at r → position (nat_eq k) at ≡ None
none-search at k i r rising is search =
    let apart : (i ≤ length at) × ((j : ℕ) → j < i → get_or at j 0 < k) × ((j : ℕ) → i ≤ j → j < length at → k < get_or at j 0) = rw is at (found_by at k r rising search) in
    position-absent (nat_eq k) at 0 (λ j within. ⊎_elim (λ below. let e = apart.1 j below in other k (get_or at j 0) e) (λ more. let e = apart.2 j more within in above k (get_or at j 0) e) (cases_lt j i))

-- ---- one place more

-- a place past those below a number is none of them
pub absent : (at : List ℕ) (n k : ℕ) → AreBelow n at → n ≤ k → position (nat_eq k) at ≡ None
absent at n k below past = position-absent (nat_eq k) at 0 (λ j within. other k (get_or at j 0) (let e = below j within in omega (arith, e, past)))

module _ {X : Type 0} (at : List ℕ) (xs : List X) (n : ℕ) (x : X) (below : AreBelow n at) (size : length at ≡ length xs) where
  at_new : kept_at (at ++ n ∷ []) (xs ++ x ∷ []) n ≡ Some x
  at_new =
      let found : position (nat_eq n) (at ++ n ∷ []) ≡ Some (length at) = position-push (nat_eq n) at n ∙ rw (absent at n n below (omega arith), same n n refl) refl in
      ap (option_and_then (slice_get (xs ++ x ∷ []))) found ∙ ap (slice_get (xs ++ x ∷ [])) size ∙ slice_get-last xs x

  inside : (k : ℕ) (o : Option ℕ) → position (nat_eq k) at ≡ o → option_and_then (slice_get (xs ++ x ∷ [])) o ≡ option_and_then (slice_get xs) o
  inside k None is = refl
  inside k (Some i) is = slice_get-push_before xs x i (let e = (position-Some (nat_eq k) at i 0 is).0 in omega (arith, e, size))

  at_old : (k : ℕ) → k < n → kept_at (at ++ n ∷ []) (xs ++ x ∷ []) k ≡ kept_at at xs k
  at_old k less =
      let found : position (nat_eq k) (at ++ n ∷ []) ≡ position (nat_eq k) at = position-push (nat_eq k) at n ∙ rw (above k n less) (first_some-None (position (nat_eq k) at)) in
      ap (option_and_then (slice_get (xs ++ x ∷ []))) found ∙ inside k (position (nat_eq k) at) refl

pub map_places_more : {X : Type 0} (f : ℕ → X) (n : ℕ) → map f (places (n + 1)) ≡ map f (places n) ++ f n ∷ []
map_places_more f n = rw add-one (map-append f (places n) (n ∷ []))

-- what is kept of one element more, which is something
pub kept-more : {X : Type 0} (at : List ℕ) (xs : List X) (n : ℕ) (x : X) → AreBelow n at → length at ≡ length xs → kept (at ++ n ∷ []) (xs ++ x ∷ []) (n + 1) ≡ kept at xs n ++ Some x ∷ []
kept-more at xs n x below size = map_places_more (kept_at (at ++ n ∷ []) (xs ++ x ∷ [])) n ∙ rw (map-agree_places (kept_at (at ++ n ∷ []) (xs ++ x ∷ [])) (kept_at at xs) n (at_old at xs n x below size), at_new at xs n x below size) refl

-- and of one which is nothing
pub kept-none : {X : Type 0} (at : List ℕ) (xs : List X) (n : ℕ) → AreBelow n at → kept at xs (n + 1) ≡ kept at xs n ++ None ∷ []
kept-none at xs n below = map_places_more (kept_at at xs) n ∙ rw (absent at n n below (omega arith)) refl

pub length-kept : {X : Type 0} (at : List ℕ) (xs : List X) (n : ℕ) → length (kept at xs n) ≡ n
length-kept at xs n = length-map (places n) (kept_at at xs) ∙ length-places n

-- what is kept for a place
pub kept_there : {X : Type 0} (at : List ℕ) (xs : List X) (n k : ℕ) → AreBelow n at → unwrap_or (slice_get (kept at xs n) k) None ≡ kept_at at xs k
kept_there at xs n k below = ⊎_elim
    (λ less.
    let first : k < length (places n) = rw (length-places n) less in
    ap (λ o. unwrap_or o None) (slice_get-map (kept_at at xs) (places n) k ∙ ap (option_map (kept_at at xs)) (slice_get-get_or (places n) k 0 first ∙ ap Some (get_or-places n k 0 less))))
    (λ more. ap (λ o. unwrap_or o None) (slice_get_past (kept at xs n) k (rw (length-kept at xs n) more)) ∙ sym (ap (option_and_then (slice_get xs)) (absent at n k below more)))
    (cases_lt k n)

pub AreBelow-push : (at : List ℕ) (n : ℕ) → AreBelow n at → AreBelow (n + 1) (at ++ n ∷ [])
AreBelow-push at n below i within = ⊎_elim
    (λ less. let e = below i less in rw (get_or_append_left at (n ∷ []) 0 i less) (omega (arith, e)))
    (λ more. let is : i ≡ length at = let size = length-append at (n ∷ []) in omega (arith, within, size) in rw (is, get_or-append_seam at n [] 0) (omega arith))
    (cases_lt i (length at))

-- ---- columns

value_there : (os : List (Option Value)) (k : ℕ) → unwrap_or (slice_get (map value_or_null os) k) Value.Null ≡ value_or_null (unwrap_or (slice_get os k) None)
value_there os k = ap (λ o. unwrap_or o Value.Null) (slice_get-map value_or_null os k) ∙ inner (slice_get os k) where
  inner : (o : Option (Option Value)) → unwrap_or (option_map value_or_null o) Value.Null ≡ value_or_null (unwrap_or o None)
  inner None = refl
  inner (Some o) = refl

-- the value at a place of a column
pub column_value : (at : List ℕ) (vs : List Value) (n k : ℕ) → AreBelow n at → value_in (column_values at vs n) k ≡ value_or_null (kept_at at vs k)
column_value at vs n k below = value_there (kept at vs n) k ∙ ap value_or_null (kept_there at vs n k below)

pub column_found : (at : List ℕ) (vs : List Value) (n k i : ℕ) → AreBelow n at → position (nat_eq k) at ≡ Some i → value_in (column_values at vs n) k ≡ value_in vs i
column_found at vs n k i below found = column_value at vs n k below ∙ ap (λ o. value_or_null (option_and_then (slice_get vs) o)) found

pub column_empty : (at : List ℕ) (vs : List Value) (n k : ℕ) → AreBelow n at → position (nat_eq k) at ≡ None → value_in (column_values at vs n) k ≡ Value.Null
column_empty at vs n k below found = column_value at vs n k below ∙ ap (λ o. value_or_null (option_and_then (slice_get vs) o)) found

-- a column of one value more
pub column-more : (at : List ℕ) (vs : List Value) (n : ℕ) (v : Value) → AreBelow n at → length at ≡ length vs → column_values (at ++ n ∷ []) (vs ++ v ∷ []) (n + 1) ≡ column_values at vs n ++ v ∷ []
column-more at vs n v below size = ap (map value_or_null) (kept-more at vs n v below size) ∙ map-append value_or_null (kept at vs n) (Some v ∷ [])

pub column-null : (at : List ℕ) (vs : List Value) (n : ℕ) → AreBelow n at → column_values at vs (n + 1) ≡ column_values at vs n ++ Value.Null ∷ []
column-null at vs n below = ap (map value_or_null) (kept-none at vs n below) ∙ map-append value_or_null (kept at vs n) (None ∷ [])

pub length-column : (at : List ℕ) (vs : List Value) (n : ℕ) → length (column_values at vs n) ≡ n
length-column at vs n = length-map (kept at vs n) value_or_null ∙ length-kept at vs n

-- ---- columns without null

-- places that rise are no less than their own places
rising_least : (at : List ℕ) (i : ℕ) → AreRising at → i < length at → i ≤ get_or at i 0
rising_least at zero rising within = omega arith
rising_least at (suc i) rising within = let e = rising_least at i rising (omega (arith, within)) in let s = rising i (suc i) (omega arith) within in omega (arith, e, s)

-- and have room for those behind them
rising_most : (at : List ℕ) (n d i : ℕ) → AreBelow n at → AreRising at → i + suc d ≡ length at → get_or at i 0 + d < n
rising_most at n zero i below rising is = let e = below i (omega (arith, is)) in omega (arith, e)
rising_most at n (suc d) i below rising is = let e = rising_most at n d (suc i) below rising (omega (arith, is)) in let s = rising i (suc i) (omega arith) (omega (arith, is)) in omega (arith, e, s)

-- so none is left out where there are as many as they may be
rising_all : (at : List ℕ) (n k : ℕ) → AreBelow n at → AreRising at → length at ≡ n → k < n → get_or at k 0 ≡ k
rising_all at n k below rising size less =
    let least = rising_least at k rising (omega (arith, size, less)) in
    let most = rising_most at n (n - suc k) k below rising (omega (arith, size, less)) in
    omega (arith, least, most, less)

map_twice : {X Y Z : Type 0} (f : X → Y) (g : Y → Z) (xs : List X) → map g (map f xs) ≡ map (λ x. g (f x)) xs
map_twice f g [] = refl
map_twice f g (x ∷ xs) = ap (λ l. g (f x) ∷ l) (map_twice f g xs)

-- a column of which each value is kept has these values
pub column-whole : (at : List ℕ) (vs : List Value) (n : ℕ) → AreBelow n at → AreRising at → length at ≡ n → length vs ≡ n → column_values at vs n ≡ vs
column-whole at vs n below rising size count =
    map_twice (kept_at at vs) value_or_null (places n)
    ∙ map-agree_places (λ k. value_or_null (kept_at at vs k)) (λ k. get_or vs k Value.Null) n (λ k less.
    ap (λ o. value_or_null (option_and_then (slice_get vs) o)) (found-rising at k k rising (omega (arith, size, less)) (rising_all at n k below rising size less))
    ∙ ap value_or_null (slice_get-get_or vs k Value.Null (omega (arith, count, less))))
    ∙ ap (λ m. map (λ k. get_or vs k Value.Null) (places m)) (sym count) ∙ map-places vs Value.Null

-- ---- what is kept for a place, in a list that is kept

pub kept_found : {X : Type 0} (at : List ℕ) (xs : List X) (n k i : ℕ) (x : X) → AreBelow n at → position (nat_eq k) at ≡ Some i → i < length xs → x ≡ get_or xs i x → unwrap_or (slice_get (kept at xs n) k) None ≡ Some x
kept_found at xs n k i x below found within item = kept_there at xs n k below ∙ ap (option_and_then (slice_get xs)) found ∙ slice_get_read xs (length xs) i x refl within item

pub kept_empty : {X : Type 0} (at : List ℕ) (xs : List X) (n k : ℕ) → AreBelow n at → position (nat_eq k) at ≡ None → unwrap_or (slice_get (kept at xs n) k) None ≡ None
kept_empty at xs n k below found = kept_there at xs n k below ∙ ap (option_and_then (slice_get xs)) found

pub found_within : (p : ℕ → Bool) (at : List ℕ) (i : ℕ) → position p at ≡ Some i → i < length at
found_within p at i found = (position-Some p at i 0 found).0
