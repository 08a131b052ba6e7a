-- Lists cut at a place.
use Rattle.std.proofs.Common.{◌≡◌, sym, ◌∙◌, ap, ℕ, ◌+◌, ◌-◌, ◌<◌, List, [], ◌∷◌, ◌++◌, map, take, drop, length, get_or, arith, add-one, drop-cons}
use Rattle.std.proofs.lemmas.List.{length-drop, map-append, take_all, take-append-drop}
use Rattle.std.proofs.Math.Seq.{take-suc}

-- one step more of a list
pub mapped-next : {X Y : Type 0} (f : X → Y) (xs : List X) (i : ℕ) (d : X) → i < length xs → d ≡ get_or xs i d → map f (take (i + 1) xs) ≡ map f (take i xs) ++ f d ∷ []
mapped-next f xs i d h is = ap (λ k. map f (take k xs)) (add-one i) ∙ ap (map f) (take-suc xs i d h) ∙ map-append f (take i xs) (get_or xs i d ∷ []) ∙ ap (λ x. map f (take i xs) ++ f x ∷ []) (sym is)

-- the steps from a place on
pub dropped-next : {X Y : Type 0} (f : X → Y) (xs : List X) (i : ℕ) (d : X) → i < length xs → d ≡ get_or xs i d → map f (drop i xs) ≡ f d ∷ map f (drop (i + 1) xs)
dropped-next f xs i d h is = ap (map f) (drop-cons xs i d h) ∙ ap (λ k. f (get_or xs i d) ∷ map f (drop k xs)) (sym (add-one i)) ∙ ap (λ x. f x ∷ map f (drop (i + 1) xs)) (sym is)

-- a list is what stands before a place, what is there, and what stands behind it
pub mapped-whole : {X Y : Type 0} (f : X → Y) (xs : List X) (i : ℕ) (d : X) → i < length xs → d ≡ get_or xs i d → map f xs ≡ map f (take i xs) ++ f d ∷ map f (drop (i + 1) xs)
mapped-whole f xs i d h is = ap (map f) (sym (take-append-drop i xs)) ∙ map-append f (take i xs) (drop i xs) ∙ ap (λ l. map f (take i xs) ++ l) (dropped-next f xs i d h is)

-- what stands behind a place, as a slice has it
abbrev pub rest_at : {X : Type 0} → List X → ℕ → List X
rest_at xs i = take (length xs - (i + 1)) (drop (i + 1) xs)

pub rest-is : {X : Type 0} (xs : List X) (i : ℕ) → rest_at xs i ≡ drop (i + 1) xs
rest-is xs i = let n = length-drop (i + 1) xs in take_all (length xs - (i + 1)) (drop (i + 1) xs) (omega (arith, n))
