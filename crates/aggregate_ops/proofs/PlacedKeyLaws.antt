-- Tables of the key lists at places of columns: one more, and those of a later table behind those of a table.
use Rattle.std.proofs.Common.{◌≡◌, ◌≢◌, ℕ, zero, suc, ◌<◌, ◌≤◌, List, [], ◌∷◌, ◌++◌, get_or, length, map, sym, ap, ◌∙◌, arith, subst, inl, inr}
use Rattle.std.specs.Prelude.{◌⊎◌, All, slice_index_or}
use Rattle.std.specs.Global.{Vec}
use Rattle.std.proofs.lemmas.Bool.{cases_eq}
use Rattle.std.proofs.lemmas.List.{get_or_append_left, get_or_push, length-map, map-append}
use Rattle.std.proofs.lemmas.Simd.{map-map}
use Rattle.std.proofs.lemmas.List.Elements.{All-append, All-cons, All-nil, All-weaker}
use Rattle.edm_values.specs.declared.Seen.{Seen}
use Rattle.edm_values.specs.declared.Value.{Value}
use Rattle.edm_values.specs.Lists.{places}
use Rattle.edm_values.proofs.TopPlaces.{length-places}
use Rattle.par_stages.specs.Placed.{placed}
use Rattle.par_stages.proofs.Passing.{placed-map}
use Rattle.aggregate_ops.specs.ColumnNumbers.{IsIn}
use Rattle.aggregate_ops.specs.Columns.{column_values, key_at, key_rows}
use Rattle.aggregate_ops.specs.KeyTables.{ArePlacesOf, IsWide, TableState, groups_of}
use Rattle.aggregate_ops.specs.Numbers.{key_number}
use Rattle.aggregate_ops.specs.PlacedKeys.{AreNumbersOf, ArePlacedOf, IsPlaceOf, PlacedKind, PlacedState, placed_rows}

-- the key list at a place has a value of each column
pub wide-at : (k : PlacedKind) (at : ℕ) (key : List Value) → key ≡ key_at k.columns at → IsPlaceOf k at → IsWide k.width key
wide-at k at key is h = ap length is ∙ length-map k.columns (λ c. slice_index_or (column_values c) at Value.Null) ∙ h.wide

-- it stands for as many as its table
placed-as : (s : PlacedState) (xs : List (ℕ × ℕ)) → ArePlacesOf s.table (placed_rows s.columns xs) → ArePlacedOf s xs
placed-as s xs h = record { count_is = h.count_is ∙ length-map xs (λ x. (key_at s.columns x.0, x.1)); table_is = h }

rows-append : (columns : List (Vec Seen)) (xs ys : List (ℕ × ℕ)) → placed_rows columns xs ++ placed_rows columns ys ≡ placed_rows columns (xs ++ ys)
rows-append columns xs ys = sym (map-append (λ (x : ℕ × ℕ). (key_at columns x.0, x.1)) xs ys)

-- one key list more
pub ArePlacedOf-next : (s : PlacedState) (table : TableState) (key : List Value) (at place : ℕ) (xs : List (ℕ × ℕ)) → key ≡ key_at s.columns at
    → ((us : List (List Value × ℕ)) → ArePlacesOf s.table us → ArePlacesOf table (us ++ (key, place) ∷ [])) → ArePlacedOf s xs → ArePlacedOf (record { columns = s.columns; rows = s.rows; table = table }) (xs ++ (at, place) ∷ [])
ArePlacedOf-next s table key at place xs is added h =
    let rows = placed_rows s.columns xs in
    let own : rows ++ (key, place) ∷ [] ≡ placed_rows s.columns (xs ++ (at, place) ∷ []) = ap (λ k. rows ++ (k, place) ∷ []) is ∙ rows-append s.columns xs ((at, place) ∷ []) in
    placed-as (record { columns = s.columns; rows = s.rows; table = table }) (xs ++ (at, place) ∷ []) (subst (ArePlacesOf table) own (added rows h.table_is))

-- a later table was added to a table
pub ArePlacedOf-append : (s t : PlacedState) (table : TableState) (xs ys : List (ℕ × ℕ)) → t.columns ≡ s.columns
    → ((us vs : List (List Value × ℕ)) → ArePlacesOf s.table us → ArePlacesOf t.table vs → ArePlacesOf table (us ++ vs)) → ArePlacedOf s xs → ArePlacedOf t ys
    → ArePlacedOf (record { columns = s.columns; rows = s.rows; table = table }) (xs ++ ys)
ArePlacedOf-append s t table xs ys same merged h k =
    let own : placed_rows s.columns xs ++ placed_rows t.columns ys ≡ placed_rows s.columns (xs ++ ys) = ap (λ cs. placed_rows s.columns xs ++ placed_rows cs ys) same ∙ rows-append s.columns xs ys in
    placed-as (record { columns = s.columns; rows = s.rows; table = table }) (xs ++ ys) (subst (ArePlacesOf table) own (merged (placed_rows s.columns xs) (placed_rows t.columns ys) h.table_is k.table_is))

-- ---- all places of columns

places-below : (m n : ℕ) → n ≤ m → All (λ k. k < m) (places n)
places-below m zero h = All-nil (λ k. k < m)
places-below m (suc n) h = All-append (λ k. k < m) (places n) (n ∷ []) (places-below m n (omega arith)) (All-cons (λ k. k < m) n [] (omega arith) (All-nil (λ k. k < m)))

-- each of so many places has a number
pub places-there : (k : PlacedKind) (columns : List (Vec Seen)) (n m : ℕ) (rows : List ℕ) → k.columns ≡ columns → k.rows ≡ m → m ≡ n → k.width ≡ length columns → rows ≡ places n → All (IsPlaceOf k) rows
places-there k columns n m rows same known size wide are =
    subst (All (IsPlaceOf k)) (sym are) (All-weaker (λ p. p < n) (IsPlaceOf k) (λ p below. record { there = omega (arith, known, size, below); wide = ap length same ∙ sym wide }) (places n) (places-below n n (omega arith)))

-- each column has a value at each of so many places
pub places-in : (columns : List (Vec Seen)) (n : ℕ) (rows : List ℕ) → rows ≡ places n → All (λ c. n ≤ length c.items) columns → All (IsIn columns) rows
places-in columns n rows are long =
    subst (All (IsIn columns)) (sym are) (All-weaker (λ p. p < n) (IsIn columns) (λ p below. λ i d w. let e = long i d w in omega (arith, e, below)) (places n) (places-below n n (omega arith)))

-- the numbers at so many places are those of as many key lists
pub numbers-at_rows : (columns : List (Vec Seen)) (n : ℕ) (rows numbers : List ℕ) → rows ≡ places n → numbers ≡ map (λ at. key_number (key_at columns at)) rows → numbers ≡ map key_number (key_rows columns n)
numbers-at_rows columns n rows numbers are is = is ∙ ap (map (λ at. key_number (key_at columns at))) are ∙ sym (map-map key_number (key_at columns) (places n))

-- the numbers of so many key lists
pub numbers-of_columns : (columns : List (Vec Seen)) (n : ℕ) (numbers : List ℕ) → numbers ≡ map key_number (key_rows columns n) → All (λ c. n ≤ length c.items) columns → AreNumbersOf columns numbers
numbers-of_columns columns n numbers are long =
    let size : length numbers ≡ n = ap length are ∙ length-map (key_rows columns n) key_number ∙ length-map (places n) (key_at columns) ∙ length-places n in
    record {
      long = subst (λ m. All (λ c. m ≤ length c.items) columns) (sym size) long;
      are = are ∙ ap (λ m. map key_number (key_rows columns m)) (sym size);
    }

-- as many as are asked for
pub many-numbers : (columns : List (Vec Seen)) (n : ℕ) (numbers : List ℕ) → numbers ≡ map key_number (key_rows columns n) → length numbers ≡ n
many-numbers columns n numbers are = ap length are ∙ length-map (key_rows columns n) key_number ∙ length-map (places n) (key_at columns) ∙ length-places n

-- each column has a value at a place that has a number
pub values-there : (columns : List (Vec Seen)) (numbers : List ℕ) (at : ℕ) → AreNumbersOf columns numbers → at < length numbers → All (λ c. at < length c.items) columns
values-there columns numbers at h below = λ i d w. let e = h.long i d w in omega arith

image-at : (f : ℕ → ℕ) (n at d : ℕ) → at < n → get_or (map f (places n)) at d ≡ f at
image-at f zero at d h = absurd (omega arith)
image-at f (suc n) at d h = ap (λ l. get_or l at d) (map-append f (places n) (n ∷ [])) ∙ go (cases_eq at n) (λ below. image-at f n at d below)
  where
    size : length (map f (places n)) ≡ n
    size = length-map (places n) f ∙ length-places n

    go : (at ≡ n) ⊎ (at ≢ n) → (at < n → get_or (map f (places n)) at d ≡ f at) → get_or (map f (places n) ++ f n ∷ []) at d ≡ f at
    go (inl last) before = get_or_push (map f (places n)) (f n) d at (omega (arith, size, last)) ∙ ap f (sym last)
    go (inr other) before =
        let ne : at ≢ n = other in
        let below : at < n = omega arith in
        get_or_append_left (map f (places n)) (f n ∷ []) d at (omega (arith, size, below)) ∙ before below

-- the number at a place is that of the key list there
pub number-at : (columns : List (Vec Seen)) (numbers : List ℕ) (at d : ℕ) → AreNumbersOf columns numbers → at < length numbers → get_or numbers at d ≡ key_number (key_at columns at)
number-at columns numbers at d h below =
    ap (λ l. get_or l at d) (h.are ∙ map-map key_number (key_at columns) (places (length numbers)))
    ∙ image-at (λ k. key_number (key_at columns k)) (length numbers) at d below

-- the groups of the key lists at so many places of the columns
pub groups-of_columns : (columns : List (Vec Seen)) (n : ℕ) (rows : List ℕ) → rows ≡ places n → groups_of (placed_rows columns (placed 0 rows)) ≡ groups_of (placed 0 (key_rows columns n))
groups-of_columns columns n rows are = ap groups_of (ap (λ ps. placed_rows columns (placed 0 ps)) are ∙ sym (placed-map (key_at columns) 0 (places n)))
