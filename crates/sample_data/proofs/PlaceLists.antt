-- Lists that a function makes of the places of a list.
use Rattle.std.proofs.Common.{◌≡◌, ℕ, zero, suc, ◌+◌, ◌<◌, ◌≤◌, Bool, true, false, ◌||◌, cond, List, [], ◌∷◌, length, map, take, refl, sym, ◌∙◌, ap, arith, inl, inr, Some}
use Rattle.std.specs.Prelude.{position, is_none, slice_get, unwrap_or}
use Rattle.std.specs.List.{list_any, position_from}
use Rattle.std.proofs.lemmas.List.{map-append, length-map, take-append-le}
use Rattle.std.proofs.lemmas.List.Folds.{list_any-append}
use Rattle.std.proofs.lemmas.Iterator.Adapters.{position_from-zero}
use Rattle.std.proofs.lemmas.Bool.{cases_lt}
use Rattle.std.proofs.Math.Seq.{take-length}
use Rattle.edm_values.specs.Lists.{places}
use Rattle.edm_values.proofs.TopPlaces.{length-places}
use Rattle.edm_model.proofs.Counted.{mapped_place}

-- as many as there are places
pub made_length : {X : Type 0} (f : ℕ → X) (n : ℕ) → length (map f (places n)) ≡ n
made_length f n = length-map (places n) f ∙ length-places n

-- what stands at a place
pub made_at : {X : Type 0} (f : ℕ → X) (d : X) (n k : ℕ) → k < n → unwrap_or (slice_get (map f (places n)) k) d ≡ f k
made_at f d n k h = ap (λ o. unwrap_or o d) (mapped_place f n k h)

-- the front of what is made
pub made_front : {X : Type 0} (f : ℕ → X) (q n : ℕ) → q ≤ n → take q (map f (places n)) ≡ map f (places q)
made_front f zero zero h = refl
made_front f (suc q) zero h = absurd (omega arith)
made_front f q (suc n) h = elim (cases_lt n q) [
  | inl more ↦ (let same : q ≡ suc n = omega arith in
      let size : q ≡ length (map f (places (suc n))) = same ∙ sym (made_length f (suc n)) in
      ap (λ k. take k (map f (places (suc n)))) size ∙ take-length (map f (places (suc n))) ∙ ap (λ k. map f (places k)) (sym same))
  | inr less ↦ (let within : q ≤ length (map f (places n)) = omega (arith, made_length f n) in
      ap (take q) (map-append f (places n) (n ∷ [])) ∙ take-append-le q (map f (places n)) (f n ∷ []) within ∙ made_front f q n less)
]

-- no element passes
pub none_made : {X : Type 0} (p : X → Bool) (f : ℕ → X) (n : ℕ) → ((k : ℕ) → k < n → p (f k) ≡ false) → list_any p (map f (places n)) ≡ false
none_made p f zero h = refl
none_made p f (suc n) h =
    ap (list_any p) (map-append f (places n) (n ∷ [])) ∙ list_any-append p (map f (places n)) (f n ∷ [])
    ∙ (λ i. none_made p f n (λ k less. h k (omega arith)) i || (h n (omega arith) i || false))

-- one passes
pub one_made : {X : Type 0} (p : X → Bool) (f : ℕ → X) (n k : ℕ) → k < n → p (f k) ≡ true → list_any p (map f (places n)) ≡ true
one_made p f zero k h passes = absurd (omega arith)
one_made p f (suc n) k h passes =
    ap (list_any p) (map-append f (places n) (n ∷ [])) ∙ list_any-append p (map f (places n)) (f n ∷ [])
    ∙ elim (cases_lt k n) [
      | inl less ↦ (λ i. one_made p f n k less passes i || list_any p (f n ∷ []))
      | inr more ↦ (let same : k ≡ n = omega arith in (λ i. list_any p (map f (places n)) || ((ap (λ j. p (f j)) (sym same) ∙ passes) i || false)) ∙ last (list_any p (map f (places n))))
    ]
  where
    last : (b : Bool) → (b || true) ≡ true
    last true = refl
    last false = refl

-- where one passes, there is a first place
found_from : {X : Type 0} (p : X → Bool) (i : ℕ) (xs : List X) → list_any p xs ≡ true → is_none (position_from p i xs) ≡ false
found_from p i [] h = cc
found_from p i (x ∷ xs) h = chosen (p x) h (found_from p (i + 1) xs)
  where
    chosen : (b : Bool) → (b || list_any p xs) ≡ true → (list_any p xs ≡ true → is_none (position_from p (i + 1) xs) ≡ false) → is_none (cond b (Some i) (position_from p (i + 1) xs)) ≡ false
    chosen true e later = refl
    chosen false e later = later e

pub found_made : {X : Type 0} (p : X → Bool) (f : ℕ → X) (n k : ℕ) → k < n → p (f k) ≡ true → is_none (position p (map f (places n))) ≡ false
found_made p f n k h passes = ap is_none (position_from-zero p (map f (places n))) ∙ found_from p 0 (map f (places n)) (one_made p f n k h passes)
