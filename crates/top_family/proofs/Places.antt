-- Places that are taken.
use Rattle.std.proofs.Common.{◌≡◌, ℕ, zero, suc, ◌+◌, ◌<◌, min, Bool, true, false, List, [], ◌∷◌, filter, take, length, get_or, Some, None, IsTrue, ℤ, refl, ap, sym, ◌∙◌, subst, arith}
use Rattle.std.specs.Prelude.{nat_eq, nat_le, nat_lt, if◌then◌else◌}
use Rattle.std.specs.List.{list_all, list_any}
use Rattle.std.proofs.lemmas.Bool.{and_from, leb-true, leb-false, lt-ltb, or_from, or_left, or_right}
use Rattle.std.proofs.lemmas.List.{map_more, take_all}
use Rattle.std.proofs.lemmas.List.Folds.{list_any-append}
use Rattle.edm_values.specs.declared.Seen.{Seen}
use Rattle.edm_values.specs.declared.Value.{Value}
use Rattle.edm_values.specs.Lists.{at_places, places, shortest_prefix}
use Rattle.edm_values.specs.Values.{is_beyond, ranked, reaches_count, seen_value, taken, top_places, value_in}
use Rattle.edm_values.proofs.EachLemmas.{Each}
use Rattle.edm_values.proofs.Reorderings.{length-reorders}
use Rattle.edm_values.proofs.TopPlaces.{each-take, length-places, ranked-below, reorders-ranked, taken-count}
use Rattle.top_family.specs.Selections.{seen_values}
use Rattle.top_family.specs.Thresholds.{IsLeast, is_reached}

-- ---- what is taken

all-below : (n : ℕ) (ks : List ℕ) → Each (λ k. k < n) ks → list_all (λ k. nat_lt k n) ks ≡ true
all-below n [] a = refl
all-below n (k ∷ ks) a = and_from _ _ (lt-ltb k n a.0) (all-below n ks a.1)

-- the places of a front of the ranking are places of the values
pub first-below : (bottom : Bool) (vs : List Value) (m n : ℕ) (ks : List ℕ) → ks ≡ take m (ranked bottom vs) → n ≡ length vs → IsTrue (list_all (λ k. nat_lt k n) ks)
first-below bottom vs m n ks e size =
    all-below n ks (subst (λ l. Each (λ k. k < l) ks) (sym size) (subst (λ zs. Each (λ k. k < length vs) zs) (sym e) (each-take (λ k. k < length vs) m (ranked bottom vs) (ranked-below bottom vs))))

pub front-below : (bottom : Bool) (vs : List Value) (m n : ℕ) (ks : List ℕ) → ks ≡ ranked bottom vs → n ≡ length vs → IsTrue (list_all (λ k. nat_lt k n) (take m ks))
front-below bottom vs m n ks e size = first-below bottom vs m n (take m ks) (ap (take m) e) size

-- a selection's answer, where no value is `Beyond`
pub selected : (reaches : List Value → Bool) (bottom : Bool) (vs : List Value) (n : ℕ) (front found : List ℕ) → list_any is_beyond vs ≡ false → n ≡ length vs → front ≡ taken reaches bottom vs
    → found ≡ filter (λ i. list_any (nat_eq i) front) (places n) → top_places reaches bottom vs ≡ Some found
selected reaches bottom vs n front found h size e f =
    ap (λ b. if b then None else Some (filter (λ i. list_any (nat_eq i) (taken reaches bottom vs)) (places (length vs)))) h
    ∙ ap Some ((λ i. filter (λ j. list_any (nat_eq j) (sym e i)) (places (sym size i))) ∙ sym f)

-- a value that is `Beyond` at a place
pub beyond-there : (vs : List Seen) (k : ℕ) (d : Seen) → k < length vs → d ≡ get_or vs k d → is_beyond (seen_value d) ≡ true → list_any is_beyond (seen_values vs) ≡ true
beyond-there [] k d l e h = absurd (omega arith)
beyond-there (v ∷ vs) zero d l e h = or_left (is_beyond (seen_value v)) (list_any is_beyond (seen_values vs)) (ap (λ u. is_beyond (seen_value u)) (sym e) ∙ h)
beyond-there (v ∷ vs) (suc k) d l e h = or_right (is_beyond (seen_value v)) (list_any is_beyond (seen_values vs)) (beyond-there vs k d (omega arith) e h)

-- a value that is seen at a place
pub seen-in : (vs : List Seen) (k : ℕ) (d : Seen) → k < length vs → d ≡ get_or vs k d → value_in (seen_values vs) k ≡ seen_value d
seen-in [] k d l e = absurd (omega arith)
seen-in (v ∷ vs) zero d l e = ap seen_value (sym e)
seen-in (v ∷ vs) (suc k) d l e = seen-in vs k d (omega arith) e

-- one value more that is not `Beyond`
pub beyond-more : (vs : List Seen) (k : ℕ) (d : Seen) → k < length vs → d ≡ get_or vs k d → list_any is_beyond (seen_values (take k vs)) ≡ false → is_beyond (seen_value d) ≡ false
    → list_any is_beyond (seen_values (take (k + 1) vs)) ≡ false
beyond-more vs k d l e none h =
    ap (list_any is_beyond) (map_more seen_value vs k d l) ∙ list_any-append is_beyond (seen_values (take k vs)) (seen_value (get_or vs k d) ∷ [])
    ∙ or_from (list_any is_beyond (seen_values (take k vs))) _ none (or_from (is_beyond (seen_value (get_or vs k d))) false (ap (λ u. is_beyond (seen_value u)) (sym e) ∙ h) refl)

-- a count past the end takes all
pub count-first : (n m : ℕ) (bottom : Bool) (vs : List Value) → m ≡ min n (length vs) → take m (ranked bottom vs) ≡ taken (reaches_count n) bottom vs
count-first n m bottom vs same = go (nat_le n (length vs)) refl ∙ sym (taken-count n bottom vs)
  where
    size : length vs ≡ length (ranked bottom vs)
    size = sym (length-places (length vs)) ∙ length-reorders (reorders-ranked bottom vs)

    go : (b : Bool) → nat_le n (length vs) ≡ b → take m (ranked bottom vs) ≡ take n (ranked bottom vs)
    go true h = let le = leb-true n (length vs) h in let k : m ≡ n = omega arith in ap (λ j. take j (ranked bottom vs)) k
    go false h =
        let less = leb-false n (length vs) h in
        let all = size in
        take_all m (ranked bottom vs) (omega arith) ∙ sym (take_all n (ranked bottom vs) (omega arith))

-- a front that is the shortest by one test is so by a test that says the same
pub reached-front : (reaches : List Value → Bool) (bottom : Bool) (vs : List Value) (least : ℤ) (ks front : List ℕ) → IsLeast reaches vs least → ks ≡ ranked bottom vs
    → front ≡ shortest_prefix (λ js. is_reached least (at_places vs js)) ks → front ≡ taken reaches bottom vs
reached-front reaches bottom vs least ks front h e f = f ∙ (λ i. shortest_prefix (λ js. sym (h js) i) (e i))
