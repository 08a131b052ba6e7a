-- Rows that agree place by place have one pattern.
use Rattle.std.proofs.Common.{◌≡◌, ℕ, zero, suc, ◌+◌, ◌<◌, List, [], ◌∷◌, length, map, take, get_or, sym, ◌∙◌, ap, arith, add-one}
use Rattle.edm_values.specs.Lists.{first_or}

-- a list without its first element
abbrev behind : {X : Type 0} → List X → List X
behind [] = []
behind (x ∷ xs) = xs

taken_more : {X B : Type 0} (f : X → B) (xs ys : List X) (k : ℕ) (x y : X) → k < length xs → k < length ys → x ≡ get_or xs k x → y ≡ get_or ys k y → f x ≡ f y
    → map f (take k xs) ≡ map f (take k ys) → map f (take (suc k) xs) ≡ map f (take (suc k) ys)
taken_more f [] ys k x y h g e d s r = absurd (omega arith)
taken_more f (u ∷ us) [] k x y h g e d s r = absurd (omega arith)
taken_more f (u ∷ us) (v ∷ vs) zero x y h g e d s r = ap (λ b. b ∷ []) (ap f (sym e) ∙ s ∙ ap f d)
taken_more f (u ∷ us) (v ∷ vs) (suc k) x y h g e d s r =
    let heads : f u ≡ f v = ap (first_or (f u)) r in
    let tails : map f (take k us) ≡ map f (take k vs) = ap behind r in
    λ i. heads i ∷ taken_more f us vs k x y (omega arith) (omega arith) e d s tails i

-- one element more on which the lists agree
pub agree_more : {X B : Type 0} (f : X → B) (xs ys : List X) (k : ℕ) (x y : X) → k < length xs → k < length ys → x ≡ get_or xs k x → y ≡ get_or ys k y → f x ≡ f y
    → map f (take k xs) ≡ map f (take k ys) → map f (take (k + 1) xs) ≡ map f (take (k + 1) ys)
agree_more f xs ys k x y h g e d s r = rw (add-one k) (taken_more f xs ys k x y h g e d s r)
