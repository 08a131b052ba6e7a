-- How many items of a list there are for each place.
use Rattle.std.proofs.Common.{◌≡◌, ◌≢◌, ℕ, ◌+◌, ◌<◌, Bool, true, false, List, [], ◌∷◌, map, cond, length, get_or, take, set, refl, sym, ◌∙◌, ap, arith, nat_eq, ⊎_elim, get_or-set_same, get_or-set_other}
use Rattle.std.specs.Prelude.{count_by}
use Rattle.std.proofs.lemmas.Bool.Decides.{nat_tests}
use Rattle.std.proofs.lemmas.Bool.{cases_eq}
use Rattle.std.proofs.lemmas.Grind.{get_or_default_zero}
use Rattle.std.proofs.lemmas.List.{ext_get_or}
use Rattle.std.proofs.lemmas.List.Sums.{count_by_more_no, count_by_more_yes, sum_by-cons}
use Rattle.std.proofs.lemmas.Option.{get_or_from_slice_get}
use Rattle.edm_values.specs.Lists.{places}
use Rattle.edm_schema.proofs.Counted.{mapped_place}
use Rattle.edm_schema.proofs.Mapped.{length-mapped}
use Rattle.edm_values.proofs.TopPlaces.{length-places}

-- a list that has what a function gives at each place
pub listed_at : (f : ℕ → ℕ) (n : ℕ) (xs : List ℕ) → length xs ≡ n → ((k : ℕ) → k < n → get_or xs k 0 ≡ f k) → xs ≡ map f (places n)
listed_at f n xs size at =
    ext_get_or 0 xs (map f (places n)) (size ∙ sym (length-mapped f (places n) ∙ length-places n)) (λ k below.
    let within : k < n = omega arith in
    at k within ∙ sym (get_or_from_slice_get (map f (places n)) k (f k) 0 (mapped_place f n k within)))

-- an item more is counted for its place
pub counted_more : {X : Type 0} (is_for : ℕ → X → Bool) (xs : List X) (i : ℕ) (x : X) (p old n : ℕ) (counts : List ℕ) → i < length xs → x ≡ get_or xs i x → ((k : ℕ) → is_for k x ≡ nat_eq k p) → p < n → length counts ≡ n → old ≡ get_or counts p old
    → ((k : ℕ) → k < n → get_or counts k 0 ≡ count_by (is_for k) (take i xs)) → (k : ℕ) → k < n → get_or (set counts p (old + 1)) k 0 ≡ count_by (is_for k) (take (i + 1) xs)
counted_more is_for xs i x p old n counts within is for below size before counted k small = ⊎_elim
    (λ same.
    let there : p < length counts = omega arith in
    let yes : is_for k (get_or xs i x) ≡ true = ap (is_for k) (sym is) ∙ (for k ∙ (ap (nat_eq k) same ∙ here k)) in
    let was : old ≡ get_or counts k 0 = before ∙ (get_or_default_zero counts p old there ∙ ap (λ j. get_or counts j 0) same) in
    let now : get_or (set counts p (old + 1)) k 0 ≡ old + 1 = ap (λ j. get_or (set counts p (old + 1)) j 0) (sym same) ∙ get_or-set_same counts p (old + 1) 0 there in
    now ∙ (ap (λ m. m + 1) (was ∙ counted k small) ∙ sym (count_by_more_yes (is_for k) xs i x within yes)))
    (λ other.
    let back : k ≢ p = λ e. other (sym e) in
    let no : is_for k (get_or xs i x) ≡ false = ap (is_for k) (sym is) ∙ (for k ∙ apart k p back) in
    get_or-set_other counts p k (old + 1) 0 back ∙ (counted k small ∙ sym (count_by_more_no (is_for k) xs i x within no)))
    (cases_eq p k)
  where
    here : (k : ℕ) → nat_eq k k ≡ true
    here k = grind (arith, nat_tests)

    apart : (a b : ℕ) → a ≢ b → nat_eq a b ≡ false
    apart a b h = grind (arith, nat_tests)

-- as many pass of what was made as make what passes
pub count_by-map : {X Y : Type 0} (p : Y → Bool) (f : X → Y) (xs : List X) → count_by p (map f xs) ≡ count_by (λ x. p (f x)) xs
count_by-map p f [] = refl
count_by-map p f (x ∷ xs) = sum_by-cons (λ y. cond (p y) 1 0) (f x) (map f xs) ∙ (ap (λ n. cond (p (f x)) 1 0 + n) (count_by-map p f xs) ∙ sym (sum_by-cons (λ z. cond (p (f z)) 1 0) x xs))
