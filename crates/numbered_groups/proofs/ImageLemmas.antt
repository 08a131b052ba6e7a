-- Images of numbers, where two are the same exactly where the numbers are.
use Rattle.std.proofs.Common.{◌≡◌, ℕ, zero, suc, ◌<◌, ◌≤◌, Bool, true, false, cond, not, List, [], ◌∷◌, map, filter, refl, sym, ap, ◌∙◌, arith}
use Rattle.std.specs.Prelude.{All, nat_eq}
use Rattle.std.specs.Cmp.{unsigned_Decides}
use Rattle.std.proofs.lemmas.List.Elements.{All-append, All-cons, All-filter, All-head, All-nil, All-tail}
use Rattle.edm_values.specs.Lists.{distinct, places}
use Rattle.edm_values.proofs.Reorderings.{TestsEquality}

-- two tests that are right at the same time
pub alike : (a b : Bool) → (a ≡ true → b ≡ true) → (b ≡ true → a ≡ true) → a ≡ b
alike true b f g = sym (f refl)
alike false true f g = g refl
alike false false f g = refl

below : (m n : ℕ) → n ≤ m → All (λ k. k < m) (places n)
below m zero h = All-nil (λ k. k < m)
below m (suc n) h = All-append (λ k. k < m) (places n) (n ∷ []) (below m n (omega arith)) (All-cons (λ k. k < m) n [] (omega arith) (All-nil (λ k. k < m)))

-- each place is below the number of places
pub below-places : (m : ℕ) → All (λ k. k < m) (places m)
below-places m = below m m (omega arith)

pub distinct-below : (m : ℕ) (xs : List ℕ) → All (λ k. k < m) xs → All (λ k. k < m) (distinct nat_eq xs)
distinct-below m [] a = a
distinct-below m (x ∷ xs) a =
    All-cons (λ k. k < m) x (filter (λ y. not (nat_eq x y)) (distinct nat_eq xs)) (All-head (λ k. k < m) x xs a)
    (All-filter (λ y. not (nat_eq x y)) (λ k. k < m) (distinct nat_eq xs) (distinct-below m xs (All-tail (λ k. k < m) x xs a)))

module _ {X : Type 0} (eq : X → X → Bool) (f : ℕ → X) (m : ℕ) (tells : (a b : ℕ) → a < m → b < m → eq (f a) (f b) ≡ nat_eq a b) where
  filter-images : (a : ℕ) → a < m → (xs : List ℕ) → All (λ k. k < m) xs → filter (λ y. not (eq (f a) y)) (map f xs) ≡ map f (filter (λ b. not (nat_eq a b)) xs)
  filter-images a h [] w = refl
  filter-images a h (x ∷ xs) w = go (nat_eq a x) (tells a x h (All-head (λ k. k < m) x xs w)) (filter-images a h xs (All-tail (λ k. k < m) x xs w))
    where
      left : List X
      left = filter (λ y. not (eq (f a) y)) (map f xs)

      right : List ℕ
      right = filter (λ b. not (nat_eq a b)) xs

      go : (b : Bool) → eq (f a) (f x) ≡ b → left ≡ map f right → cond (not (eq (f a) (f x))) (f x ∷ left) left ≡ map f (cond (not b) (x ∷ right) right)
      go true e r = ap (λ q. cond (not q) (f x ∷ left) left) e ∙ r
      go false e r = ap (λ q. cond (not q) (f x ∷ left) left) e ∙ ap (λ l. f x ∷ l) r

  -- the distinct images are those of the distinct numbers
  pub distinct-of_images : (xs : List ℕ) → All (λ k. k < m) xs → distinct eq (map f xs) ≡ map f (distinct nat_eq xs)
  distinct-of_images [] w = refl
  distinct-of_images (x ∷ xs) w =
      ap (λ l. f x ∷ l)
      (ap (filter (λ y. not (eq (f x) y))) (distinct-of_images xs (All-tail (λ k. k < m) x xs w))
      ∙ filter-images x (All-head (λ k. k < m) x xs w) (distinct nat_eq xs) (distinct-below m xs (All-tail (λ k. k < m) x xs w)))

module _ {X : Type 0} (eq : X → X → Bool) (t : TestsEquality eq) (f : ℕ → X) (m : ℕ) (tells : (a b : ℕ) → a < m → b < m → eq (f a) (f b) ≡ nat_eq a b) where
  -- the numbers of the same images are the same
  pub images-once : (xs ys : List ℕ) → All (λ k. k < m) xs → All (λ k. k < m) ys → map f xs ≡ map f ys → xs ≡ ys
  images-once [] [] v w e = refl
  images-once [] (y ∷ ys) v w e = absurd (cc)
  images-once (x ∷ xs) [] v w e = absurd (cc)
  images-once (x ∷ xs) (y ∷ ys) v w e =
      let first : f x ≡ f y = cc in
      let rest : map f xs ≡ map f ys = cc in
      let same : nat_eq x y ≡ true = sym (tells x y (All-head (λ k. k < m) x xs v) (All-head (λ k. k < m) y ys w)) ∙ ap (eq (f x)) (sym first) ∙ t.itself (f x) in
      λ i. (unsigned_Decides x y).0 same i ∷ images-once xs ys (All-tail (λ k. k < m) x xs v) (All-tail (λ k. k < m) y ys w) rest i
