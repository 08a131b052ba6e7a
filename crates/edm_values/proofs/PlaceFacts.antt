-- Tests and functions at the places of a list.
use Rattle.std.proofs.Common.{◌≡◌, refl, sym, ◌∙◌, ap, ℕ, zero, suc, ◌+◌, ◌<◌, ◌≤◌, Bool, true, false, ◌||◌, List, [], ◌∷◌, ◌++◌, map, inl, inr, arith}
use Rattle.std.specs.Prelude.{All, flat_map, nat_lt}
use Rattle.std.specs.List.{list_all, list_any}
use Rattle.std.proofs.lemmas.Bool.{and_parts, and_from, or_left, or_right, cases_lt, lt-ltb}
use Rattle.std.proofs.lemmas.List.{map-append}
use Rattle.std.proofs.lemmas.List.Elements.{All-nil, All-append, All-head, All-tail}
use Rattle.std.proofs.lemmas.List.Folds.{list_any-append}
use Rattle.edm_values.specs.Lists.{places}
use Rattle.edm_values.proofs.ListFacts.{all-append, all-parts}

-- what all places pass, each of them passes
pub all-place : (p : ℕ → Bool) (n k : ℕ) → list_all p (places n) ≡ true → k < n → p k ≡ true
all-place p zero k h l = absurd (omega arith)
all-place p (suc n) k h l =
    let t = all-parts p (places n) (n ∷ []) h in
    elim (cases_lt k n) [
      | inl below ↦ all-place p n k t.0 below
      | inr above ↦ (let here : k ≡ n = omega arith in ap p here ∙ (and_parts (p n) true t.1).0)
    ]

-- one place passes where it does
pub any-place : (p : ℕ → Bool) (n k : ℕ) → k < n → p k ≡ true → list_any p (places n) ≡ true
any-place p zero k l h = absurd (omega arith)
any-place p (suc n) k l h = elim (cases_lt k n) [
  | inl below ↦ list_any-append p (places n) (n ∷ []) ∙ or_left (list_any p (places n)) (p n || false) (any-place p n k below h)
  | inr above ↦ (let here : n ≡ k = omega arith in list_any-append p (places n) (n ∷ []) ∙ or_right (list_any p (places n)) (p n || false) (or_left (p n) false (ap p here ∙ h)))
]

-- each of the first n places is before m
pub places-within : (m n : ℕ) → n ≤ m → list_all (λ k. nat_lt k m) (places n) ≡ true
places-within m zero h = refl
places-within m (suc n) h = all-append (λ k. nat_lt k m) (places n) (n ∷ []) (places-within m n (omega arith)) (and_from _ _ (lt-ltb n m (omega arith)) refl)

-- two functions that agree at each place make one list
pub map-agree_places : {X : Type 0} (f g : ℕ → X) (n : ℕ) → ((k : ℕ) → k < n → f k ≡ g k) → map f (places n) ≡ map g (places n)
map-agree_places f g zero h = refl
map-agree_places f g (suc n) h =
    map-append f (places n) (n ∷ []) ∙ (λ i. map-agree_places f g n (λ k l. h k (omega arith)) i ++ h n (omega arith) i ∷ []) ∙ sym (map-append g (places n) (n ∷ []))

-- what holds of each part of a list, where it holds of the part of each number below n
pub All-flat_map_below : {X : Type 0} (P : X → Type 0) (f : ℕ → List X) (n : ℕ) → ((t : ℕ) → t < n → All P (f t)) → (ts : List ℕ) → All (λ t. t < n) ts → All P (flat_map f ts)
All-flat_map_below P f n h [] below = All-nil P
All-flat_map_below P f n h (t ∷ ts) below = All-append P (f t) (flat_map f ts) (h t (All-head (λ t. t < n) t ts below)) (All-flat_map_below P f n h ts (All-tail (λ t. t < n) t ts below))
