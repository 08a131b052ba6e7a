-- Values that stand across columns, and numbers that are counted.
use Rattle.std.proofs.Common.{◌≡◌, ◌≢◌, ℕ, ◌+◌, ◌<◌, Bool, true, false, cond, refl, sym, subst, ◌∙◌, ap, arith, List, [], ◌∷◌, map, take, set, get_or, length, filter, nat_eq, ⊎_elim, get_or-set_same, get_or-set_other}
use Rattle.std.specs.Prelude.{All, count_by, nat_lt}
use Rattle.std.specs.List.{list_all}
use Rattle.std.proofs.lemmas.Bool.{and_from, cases_eq, lt-ltb}
use Rattle.std.proofs.lemmas.Bool.Decides.{nat_tests}
use Rattle.std.proofs.lemmas.Grind.{get_or_default_zero}
use Rattle.std.proofs.lemmas.List.{ext_get_or, get_or-map, length-map}
use Rattle.std.proofs.lemmas.List.Elements.{All-get_or, All-head, All-tail}
use Rattle.std.proofs.lemmas.List.Sums.{count_by_more_no, count_by_more_yes, sum_by-cons}
use Rattle.edm_values.specs.Lists.{places}
use Rattle.edm_values.proofs.TopPlaces.{length-places}
use Rattle.edm_data.proofs.PlaceLemmas.{get_or-places}
use Rattle.par_stages.proofs.Passing.{passing}
use Rattle.par_stages.specs.Placed.{placed}
use Rattle.numbered_groups.specs.Numbered.{places_with}

-- ---- what stands at places

-- what a function gives on the places stands at each of them
pub at-place : {X : Type 0} (f : ℕ → X) (n k : ℕ) (d : X) → k < n → get_or (map f (places n)) k d ≡ f k
at-place f n k d h = let long = length-places n in get_or-map f (places n) k 0 d (omega (arith, h, long)) ∙ ap f (get_or-places n k 0 h)

pub length-made : {X : Type 0} (f : ℕ → X) (n : ℕ) → length (map f (places n)) ≡ n
length-made f n = length-map (places n) f ∙ length-places n

-- a list that has what a function gives at each place
pub listed-at : (f : ℕ → ℕ) (n : ℕ) (xs : List ℕ) → length xs ≡ n → ((k : ℕ) → k < n → get_or xs k 0 ≡ f k) → xs ≡ map f (places n)
listed-at f n xs size at = ext_get_or 0 xs (map f (places n)) (size ∙ sym (length-made f n)) (λ k below. let within : k < n = omega (arith, below, size) in at k within ∙ sym (at-place f n k 0 within))

-- ---- tests on all

-- places below an end
pub below-all : (m : ℕ) (xs : List ℕ) → All (λ k. k < m) xs → list_all (λ k. nat_lt k m) xs ≡ true
below-all m [] a = refl
below-all m (x ∷ xs) a = and_from (nat_lt x m) _ (lt-ltb x m (All-head (λ k. k < m) x xs a)) (below-all m xs (All-tail (λ k. k < m) x xs a))

-- ---- counts

-- there are as many places as items that pass
pub passing-count : (q : ℕ → Bool) (n : ℕ) (xs : List ℕ) → length (passing q n xs) ≡ count_by q xs
passing-count q n [] = refl
passing-count q n (x ∷ xs) = go (q x) ∙ ap (λ m. cond (q x) 1 0 + m) (passing-count q (n + 1) xs) ∙ sym (sum_by-cons (λ y. cond (q y) 1 0) x xs)
  where
    go : (b : Bool) → length (map (λ y. y.1) (cond b ((x, n) ∷ filter (λ y. q y.0) (placed (n + 1) xs)) (filter (λ y. q y.0) (placed (n + 1) xs)))) ≡ cond b 1 0 + length (passing q (n + 1) xs)
    go true = omega arith
    go false = omega arith

-- a number more is counted
pub counted-more : (xs : List ℕ) (i x old more n : ℕ) (counts : List ℕ) → i < length xs → x ≡ get_or xs i x → x < n → length counts ≡ n → old ≡ get_or counts x old → more ≡ old + 1
    → ((k : ℕ) → k < n → get_or counts k 0 ≡ count_by (λ y. nat_eq y k) (take i xs)) → (k : ℕ) → k < n → get_or (set counts x more) k 0 ≡ count_by (λ y. nat_eq y k) (take (i + 1) xs)
counted-more xs i x old more n counts within is below size before one counted k small = ⊎_elim
    (λ same.
    let there : x < length counts = omega (arith, below, size) in
    let yes : nat_eq (get_or xs i x) k ≡ true = ap (λ y. nat_eq y k) (sym is) ∙ here k same in
    let was : old ≡ get_or counts k 0 = before ∙ (get_or_default_zero counts x old there ∙ ap (λ j. get_or counts j 0) same) in
    let now : get_or (set counts x more) k 0 ≡ old + 1 = ap (λ j. get_or (set counts x more) j 0) (sym same) ∙ get_or-set_same counts x more 0 there ∙ one in
    now ∙ (ap (λ m. m + 1) (was ∙ counted k small) ∙ sym (count_by_more_yes (λ y. nat_eq y k) xs i x within yes)))
    (λ other.
    let back : k ≢ x = λ e. other (sym e) in
    let no : nat_eq (get_or xs i x) k ≡ false = ap (λ y. nat_eq y k) (sym is) ∙ apart x k other in
    get_or-set_other counts x k more 0 back ∙ (counted k small ∙ sym (count_by_more_no (λ y. nat_eq y k) xs i x within no)))
    (cases_eq x k)
  where
    here : (k : ℕ) → x ≡ k → nat_eq x k ≡ true
    here k e = grind (arith, nat_tests)

    apart : (a b : ℕ) → a ≢ b → nat_eq a b ≡ false
    apart a b h = grind (arith, nat_tests)

-- all are counted
pub counted-all : (numbers counts : List ℕ) (n : ℕ) → length counts ≡ n → ((k : ℕ) → k < n → get_or counts k 0 ≡ count_by (λ y. nat_eq y k) numbers) → counts ≡ map (λ j. length (places_with numbers j)) (places n)
counted-all numbers counts n size at = listed-at (λ j. length (places_with numbers j)) n counts size (λ k h. at k h ∙ sym (passing-count (λ y. nat_eq y k) 0 numbers))

-- what holds of all images holds of the image of an element
pub all-image : {X Y : Type 0} (P : Y → Type 0) (f : X → Y) (xs : List X) (k : ℕ) (x : X) → All P (map f xs) → k < length xs → x ≡ get_or xs k x → P (f x)
all-image P f xs k x a h e =
    let long = length-map xs f in
    subst P (get_or-map f xs k x (f x) h ∙ ap f (sym e)) (All-get_or P (map f xs) k (f x) (omega (arith, h, long)) a)
