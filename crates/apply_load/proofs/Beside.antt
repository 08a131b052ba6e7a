-- Two lists of which each item of the one stands beside one of the other.
use Rattle.std.proofs.Common.{◌≡◌, ℕ, zero, suc, ◌<◌, List, [], ◌∷◌, length, get_or, refl, ap, arith}
use Rattle.std.specs.List.{AllZip}

module _ {A B : Type 0} (P : A → B → Type 0) where
  pub zip-length : (xs : List A) (ys : List B) → AllZip P xs ys → length xs ≡ length ys
  zip-length [] [] h = refl
  zip-length [] (y ∷ ys) h = absurd h
  zip-length (x ∷ xs) [] h = absurd h
  zip-length (x ∷ xs) (y ∷ ys) h = ap suc (zip-length xs ys h.1)

  pub zip-at : (xs : List A) (ys : List B) (k : ℕ) (d : A) (e : B) → AllZip P xs ys → k < length xs → P (get_or xs k d) (get_or ys k e)
  zip-at [] ys k d e h within = absurd (omega arith)
  zip-at (x ∷ xs) [] k d e h within = absurd h
  zip-at (x ∷ xs) (y ∷ ys) zero d e h within = h.0
  zip-at (x ∷ xs) (y ∷ ys) (suc k) d e h within = zip-at xs ys k d e h.1 (omega (arith, within))
