-- Lists that a function made of a list.
use Rattle.std.proofs.Common.{◌≡◌, ℕ, suc, ◌+◌, ◌<◌, Bool, true, false, List, [], ◌∷◌, ◌++◌, refl, sym, ◌∙◌, ap, map, cond, length, get_or, take, drop}
use Rattle.std.specs.Prelude.{◌&&◌, filter, position}
use Rattle.std.specs.List.{list_any, prefix_len}
use Rattle.std.specs.Cmp.Lexicographic.{pointwise}
use Rattle.std.proofs.lemmas.List.{map-append, take_more}
use Rattle.std.proofs.lemmas.List.Folds.{list_all-map}

pub list_any-map : {X Y : Type 0} (p : X → Bool) (f : Y → X) (ys : List Y) → list_any p (map f ys) ≡ list_any (λ y. p (f y)) ys
list_any-map p f [] = refl
list_any-map p f (y ∷ ys) = rw (list_any-map p f ys) refl

pub ruleset mapped = (list_all-map, list_any-map)

prefix_len-map : {X Y : Type 0} (p : X → Bool) (f : Y → X) (ys : List Y) → prefix_len p (map f ys) ≡ prefix_len (λ y. p (f y)) ys
prefix_len-map p f [] = refl
prefix_len-map p f (y ∷ ys) = ap (λ n. cond (p (f y)) (1 + n) 0) (prefix_len-map p f ys)

-- as many were made
pub length-mapped : {X Y : Type 0} (f : Y → X) (ys : List Y) → length (map f ys) ≡ length ys
length-mapped f [] = refl
length-mapped f (y ∷ ys) = ap suc (length-mapped f ys)

-- the first place at which what was made passes
pub position_mapped : {X Y : Type 0} (p : X → Bool) (f : Y → X) (ys : List Y) → position p (map f ys) ≡ position (λ y. p (f y)) ys
position_mapped p f ys = simp (prefix_len-map, length-mapped)

-- ---- texts in two parts

-- a text equals two parts where its front equals the first and its rest the second
pub pointwise-append : (eq : ℕ → ℕ → Bool) (t a b : List ℕ) → pointwise eq t (a ++ b) ≡ (pointwise eq (take (length a) t) a && pointwise eq (drop (length a) t) b)
pointwise-append eq t [] b = refl
pointwise-append eq [] (x ∷ a) b = refl
pointwise-append eq (y ∷ t) (x ∷ a) b = elim (eq y x) as (λ c. (c && pointwise eq t (a ++ b)) ≡ ((c && pointwise eq (take (length a) t) a) && pointwise eq (drop (length a) t) b)) [ true ↦ pointwise-append eq t a b | false ↦ refl ]

-- what is left of what was made
pub filter_mapped : {X Y : Type 0} (p : X → Bool) (f : Y → X) (ys : List Y) → filter p (map f ys) ≡ map f (filter (λ y. p (f y)) ys)
filter_mapped p f [] = refl
filter_mapped p f (y ∷ ys) = elim (p (f y)) as (λ b. cond b (f y ∷ filter p (map f ys)) (filter p (map f ys)) ≡ map f (cond b (y ∷ filter (λ y. p (f y)) ys) (filter (λ y. p (f y)) ys))) [ true ↦ ap (λ xs. f y ∷ xs) (filter_mapped p f ys) | false ↦ filter_mapped p f ys ]

-- one element more of what a loop makes of a list
pub made_more : {X Y : Type 0} (f : X → Y) (xs : List X) (i : ℕ) (x : X) (before now : List Y) (y : Y) → i < length xs → x ≡ get_or xs i x → before ≡ map f (take i xs) → now ≡ before ++ y ∷ [] → y ≡ f x → now ≡ map f (take (i + 1) xs)
made_more f xs i x before now y within is made pushed same =
    pushed ∙ (ap (λ ys. ys ++ y ∷ []) made ∙ (ap (λ z. map f (take i xs) ++ z ∷ []) (same ∙ ap f is) ∙ sym (ap (map f) (take_more xs i x within) ∙ map-append f (take i xs) (get_or xs i x ∷ []))))
