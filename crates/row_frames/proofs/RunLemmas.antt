-- Rows of the first table that stand one behind the other.
use Rattle.std.proofs.Common.{◌≡◌, ◌∙◌, ◌<◌, ◌==◌, ℕ, zero, suc, ◌+◌, ◌-◌, ◌++◌, false, List, [], ◌∷◌, ap, arith, drop, get_or, length, length-drop, map, nat_eq, refl, subst, sym, take, ⊎_elim}
use Rattle.std.specs.Prelude.{min, nat_lt}
use Rattle.std.specs.List.{All, list_any}
use Rattle.std.proofs.Math.Dec.{eqb-zero-suc}
use Rattle.std.proofs.lemmas.Bool.{cases_lt, lt-ltb, or_from}
use Rattle.std.proofs.lemmas.List.{map-append, take_more, take-append-drop}
use Rattle.std.proofs.lemmas.List.Elements.{All-cons, All-drop, All-nil, All-take}
use Rattle.edm_values.specs.Lists.{places}
use Rattle.row_frames.specs.declared.tables.Pick.{Pick}
use Rattle.row_frames.specs.Frames.{first_pick}
use Rattle.row_frames.specs.Runs.{rows_from}

-- how many there are, and which one stands at a place
pub rows-length : (k n : ℕ) → length (rows_from k n) ≡ n
rows-length k zero = refl
rows-length k (suc n) = ap suc (rows-length (suc k) n)

pub rows-at : (k n i : ℕ) (d : Pick) → i < n → get_or (rows_from k n) i d ≡ first_pick (k + i)
rows-at k zero i d h = absurd (omega (arith, h))
rows-at k (suc n) zero d h = let e : k ≡ k + 0 = omega arith in ap first_pick e
rows-at k (suc n) (suc i) d h = let e : suc k + i ≡ k + suc i = omega arith in rows-at (suc k) n i d (omega (arith, h)) ∙ ap first_pick e

-- those behind some of them, and these
pub rows-drop : (k n m : ℕ) → drop m (rows_from k n) ≡ rows_from (k + m) (n - m)
rows-drop k n zero =
    let e : k ≡ k + 0 = omega arith in
    let f : n ≡ n - 0 = omega arith in
    λ i. rows_from (e i) (f i)
rows-drop k zero (suc m) = let f : 0 ≡ 0 - suc m = omega arith in ap (rows_from (k + suc m)) f
rows-drop k (suc n) (suc m) =
    let e : suc k + m ≡ k + suc m = omega arith in
    let f : n - m ≡ suc n - suc m = omega arith in
    rows-drop (suc k) n m ∙ (λ i. rows_from (e i) (f i))

pub rows-take : (k n m : ℕ) → take m (rows_from k n) ≡ rows_from k (min m n)
rows-take k n zero = let e : 0 ≡ min 0 n = omega arith in ap (rows_from k) e
rows-take k zero (suc m) = let e : 0 ≡ min (suc m) 0 = omega arith in ap (rows_from k) e
rows-take k (suc n) (suc m) = let e : suc (min m n) ≡ min (suc m) (suc n) = omega arith in ap (λ l. first_pick k ∷ l) (rows-take (suc k) n m) ∙ ap (rows_from k) e

-- one more at the end
rows-more : (k n : ℕ) → rows_from k (suc n) ≡ rows_from k n ++ first_pick (k + n) ∷ []
rows-more k zero = let e : k ≡ k + 0 = omega arith in ap (λ j. first_pick j ∷ []) e
rows-more k (suc n) = let e : suc k + n ≡ k + suc n = omega arith in ap (λ l. first_pick k ∷ l) (rows-more (suc k) n ∙ ap (λ j. rows_from (suc k) n ++ first_pick j ∷ []) e)

-- the first rows
pub rows-places : (n : ℕ) → rows_from 0 n ≡ map first_pick (places n)
rows-places zero = refl
rows-places (suc n) =
    let e : 0 + n ≡ n = omega arith in
    rows-more 0 n ∙ ap (λ j. rows_from 0 n ++ first_pick j ∷ []) e ∙ ap (λ l. l ++ first_pick n ∷ []) (rows-places n) ∙ sym (map-append first_pick (places n) (n ∷ []))

-- a run without the first of its rows, and these
pub run-later : (from to n m : ℕ) → m ≡ min n (to - from) → rows_from (from + m) (to - (from + m)) ≡ drop n (rows_from from (to - from))
run-later from to n m is = ⊎_elim
    (λ less.
    let e : from + m ≡ from + n = omega (arith, is, less) in
    let f : to - (from + m) ≡ (to - from) - n = omega (arith, is, less) in
    (λ i. rows_from (e i) (f i)) ∙ sym (rows-drop from (to - from) n))
    (λ past.
    let f : to - (from + m) ≡ 0 = omega (arith, is, past) in
    let g : (to - from) - n ≡ 0 = omega (arith, past) in
    ap (rows_from (from + m)) f ∙ sym (rows-drop from (to - from) n ∙ ap (rows_from (from + n)) g))
    (cases_lt n (to - from))

pub run-first : (from to n m : ℕ) → m ≡ min n (to - from) → rows_from from ((from + m) - from) ≡ take n (rows_from from (to - from))
run-first from to n m is = let e : (from + m) - from ≡ min n (to - from) = omega (arith, is) in ap (rows_from from) e ∙ sym (rows-take from (to - from) n)

-- one row more of a list
pub more-taken : {X Y : Type 0} (f : X → Y) (xs : List X) (n : ℕ) (x : X) (y : Y) (made made' : List Y) → n < length xs → x ≡ get_or xs n x → y ≡ f x → made' ≡ made ++ y ∷ [] → made ≡ map f (take n xs) → made' ≡ map f (take (n + 1) xs)
more-taken f xs n x y made made' h at is more so-far =
    more
    ∙ (λ i. so-far i ++ (is ∙ ap f at) i ∷ [])
    ∙ sym (map-append f (take n xs) (get_or xs n x ∷ []))
    ∙ sym (ap (map f) (take_more xs n x h))

pub map-self : {X : Type 0} (xs : List X) → map (λ x. x) xs ≡ xs
map-self [] = refl
map-self (x ∷ xs) = ap (λ l. x ∷ l) (map-self xs)

-- the part of a list that is the first of its rows, and the others, are the list
pub first-later : {X : Type 0} (xs first later : List X) (n : ℕ) → first ≡ take n xs → later ≡ drop n xs → first ++ later ≡ xs
first-later xs first later n f l = (λ i. f i ++ l i) ∙ take-append-drop n xs

-- fewer rows are left
pub later-fewer : {X : Type 0} (xs later : List X) (n : ℕ) → later ≡ drop n xs → 0 < n → 0 < length xs → length later < length xs
later-fewer xs later n l some there = let e = ap length l ∙ length-drop n xs in omega (arith, e)

-- whether a row of a table is in a run
pub run-in_order : (n : ℕ) (k : ℕ) (d : Pick) → k < length (rows_from 0 n) → (get_or (rows_from 0 n) k d).row ≡ k
run-in_order n k d h =
    let l = rows-length 0 n in
    let e : 0 + k ≡ k = omega arith in
    ap (λ (x : Pick). x.row) (rows-at 0 n k d (omega (arith, l, h))) ∙ e

none-of : (k n j : ℕ) → nat_eq 0 j ≡ false → list_any (λ (x : Pick). x.table == j) (rows_from k n) ≡ false
none-of k zero j h = refl
none-of k (suc n) j h = or_from _ _ h (none-of (suc k) n j h)

pub run-has : (k n j l : ℕ) → j ≡ 0 → l ≡ n → nat_lt 0 l ≡ list_any (λ (x : Pick). x.table == j) (rows_from k n)
run-has k n j l first long = ap (nat_lt 0) long ∙ go n ∙ sym (ap (λ i. list_any (λ (x : Pick). x.table == i) (rows_from k n)) first)
  where
    go : (n : ℕ) → nat_lt 0 n ≡ list_any (λ (x : Pick). x.table == 0) (rows_from k n)
    go zero = refl
    go (suc n) = lt-ltb 0 (suc n) (omega arith)

pub run-has-none : (k n j : ℕ) → (j ≡ 0 → ⊥) → false ≡ list_any (λ (x : Pick). x.table == j) (rows_from k n)
run-has-none k n zero other = absurd (other refl)
run-has-none k n (suc j) other = sym (none-of k n (suc j) (eqb-zero-suc j))

-- rows of tables that are there
pub rows-within : (P : Pick → Type 0) (k n : ℕ) → ((j : ℕ) → P (first_pick j)) → All P (rows_from k n)
rows-within P k zero h = All-nil P
rows-within P k (suc n) h = All-cons P (first_pick k) (rows_from (suc k) n) (h k) (rows-within P (suc k) n h)

-- what holds of all rows holds of the first of them, and of the others
pub all-first : {X : Type 0} (P : X → Type 0) (xs first : List X) (n : ℕ) → first ≡ take n xs → All P xs → All P first
all-first P xs first n f h = subst (All P) (sym f) (All-take P n xs h)

pub all-later : {X : Type 0} (P : X → Type 0) (xs later : List X) (n : ℕ) → later ≡ drop n xs → All P xs → All P later
all-later P xs later n l h = subst (All P) (sym l) (All-drop P n xs h)
