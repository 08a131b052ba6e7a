-- Tests at each place of a list.
use Rattle.std.proofs.Common.{◌≡◌, ℕ, zero, suc, ◌+◌, ◌<◌, Bool, false, List, [], ◌∷◌, ◌++◌, refl, sym, ◌∙◌, ap, arith, add-one, inl, inr, map, take, length, get_or, Some, append-nil}
use Rattle.std.specs.Prelude.{◌&&◌, flat_map, slice_get}
use Rattle.std.specs.List.{list_all, enumerate_from}
use Rattle.std.proofs.lemmas.List.Folds.{list_all-append}
use Rattle.std.proofs.lemmas.Bool.{cases_lt}
use Rattle.std.proofs.Math.Bool.{and-true, and-false}
use Rattle.std.proofs.lemmas.Grind.{flat_map-append}
use Rattle.std.proofs.lemmas.List.{map-append}
use Rattle.edm_schema.proofs.Mapped.{length-mapped}
use Rattle.edm_values.specs.Lists.{places}
use Rattle.edm_values.proofs.ListFacts.{slice_get-last}
use Rattle.edm_values.proofs.TopPlaces.{length-places}

-- one place more
pub all_places_more : (p : ℕ → Bool) (k : ℕ) → list_all p (places (k + 1)) ≡ (list_all p (places k) && p k)
all_places_more p k = rw add-one (list_all-append p (places k) (k ∷ []) ∙ ap (λ b. list_all p (places k) && b) (and-true (p k)))

-- a place that does not pass
pub all_places_at : (p : ℕ → Bool) (n k : ℕ) → k < n → p k ≡ false → list_all p (places n) ≡ false
all_places_at p zero k h fails = absurd (omega arith)
all_places_at p (suc n) k h fails =
    let last = list_all-append p (places n) (n ∷ []) ∙ ap (λ b. list_all p (places n) && b) (and-true (p n)) in
    elim (cases_lt k n) [
      | inl below ↦ last ∙ ap (λ b. b && p n) (all_places_at p n k below fails)
      | inr above ↦ (let here : k ≡ n = omega arith in last ∙ (ap (λ b. list_all p (places n) && b) (ap p (sym here) ∙ fails) ∙ and-false (list_all p (places n))))
    ]

pub ruleset counted = (all_places_more, all_places_at)

-- one place more
pub places_more : (k : ℕ) → places (k + 1) ≡ places k ++ k ∷ []
places_more k = rw add-one refl

-- one place more of what a function gives at each
pub flat_places_more : {X : Type 0} (f : ℕ → List X) (k : ℕ) → flat_map f (places (k + 1)) ≡ flat_map f (places k) ++ f k
flat_places_more f k = rw add-one (flat_map-append f (places k) (k ∷ []) ∙ ap (λ ys. flat_map f (places k) ++ ys) (append-nil (f k)))

enumerate_suc : {X : Type 0} (n : ℕ) (xs : List X) (i : ℕ) (d : X) → i < length xs → enumerate_from n (take (suc i) xs) ≡ enumerate_from n (take i xs) ++ (n + i, get_or xs i d) ∷ []
enumerate_suc n [] i d h = absurd (omega arith)
enumerate_suc n (x ∷ xs) zero d h = ap (λ k. (k, x) ∷ []) (omega arith)
enumerate_suc n (x ∷ xs) (suc i) d h = ap (λ ys. (n, x) ∷ ys) (enumerate_suc (n + 1) xs i d (omega arith) ∙ ap (λ k. enumerate_from (n + 1) (take i xs) ++ (k, get_or xs i d) ∷ []) (omega arith))

-- one element more with its place
pub enumerate_more : {X : Type 0} (xs : List X) (i : ℕ) (d : X) → i < length xs → enumerate_from 0 (take (i + 1) xs) ≡ enumerate_from 0 (take i xs) ++ (i, get_or xs i d) ∷ []
enumerate_more xs i d h = rw add-one (enumerate_suc 0 xs i d h ∙ ap (λ k. enumerate_from 0 (take i xs) ++ (k, get_or xs i d) ∷ []) (omega arith))

front_get : {X : Type 0} (xs ys : List X) (t : ℕ) (x : X) → slice_get xs t ≡ Some x → slice_get (xs ++ ys) t ≡ Some x
front_get [] ys t x h = cc
front_get (y ∷ xs) ys zero x h = h
front_get (y ∷ xs) ys (suc t) x h = front_get xs ys t x h

-- what stands at a place of the places
pub mapped_place : {X : Type 0} (f : ℕ → X) (n t : ℕ) → t < n → slice_get (map f (places n)) t ≡ Some (f t)
mapped_place f zero t h = absurd (omega arith)
mapped_place f (suc n) t h = rw map-append (elim (cases_lt t n) [
  | inl below ↦ front_get (map f (places n)) (f n ∷ []) t (f t) (mapped_place f n t below)
  | inr above ↦ (let e : t ≡ n = omega arith in
      let size : n ≡ length (map f (places n)) = sym (length-mapped f (places n) ∙ length-places n) in
      ap (slice_get (map f (places n) ++ f n ∷ [])) (e ∙ size) ∙ (slice_get-last (map f (places n)) (f n) ∙ ap (λ k. Some (f k)) (sym e)))
])
