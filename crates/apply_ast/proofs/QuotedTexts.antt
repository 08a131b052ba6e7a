-- Quotes doubled one after another.
use Rattle.std.proofs.Common.{◌≡◌, refl, sym, ◌∙◌, ap, ℕ, suc, ◌+◌, ◌<◌, ◌==◌, Bool, true, false, not, cond, List, [], ◌∷◌, ◌++◌, length, take, drop, arith, lit<, subst, add-one, Option, Some, None, Bor}
use Rattle.std.specs.Prelude.{if◌then◌else◌}
use Rattle.std.specs.List.{position_or_len, before_first, after_first}
use Rattle.std.proofs.Math.Numerals.{one-add}
use Rattle.std.proofs.lemmas.Str.Pattern.{IsSplitOnceResult, split_once_first}
use Rattle.apply_ast.specs.Printing.{doubled}

-- the byte is a quote
abbrev pub is_quote : ℕ → Bool
is_quote b = b == 39

module _ (x : ℕ) (xs : List ℕ) where
  -- the place of the first quote behind x
  abbrev place : ℕ
  place = position_or_len is_quote xs

  further : (doubled xs ≡ before_first is_quote xs ++ (39 ∷ 39 ∷ doubled (after_first is_quote xs))) → (k : ℕ) → k ≡ suc place → x ∷ doubled xs ≡ take k (x ∷ xs) ++ (39 ∷ 39 ∷ doubled (drop (k + 1) (x ∷ xs)))
  further h k e = rw (e, add-one (suc place)) (ap (λ t. x ∷ t) (h ∙ ap (λ k. before_first is_quote xs ++ (39 ∷ 39 ∷ doubled (drop k xs))) (add-one place)))

  cut_by : (b : Bool) → (place < length xs → doubled xs ≡ before_first is_quote xs ++ (39 ∷ 39 ∷ doubled (after_first is_quote xs))) → cond (not b) (1 + place) 0 < length (x ∷ xs)
      → (if b then 39 ∷ 39 ∷ [] else x ∷ []) ++ doubled xs ≡ take (cond (not b) (1 + place) 0) (x ∷ xs) ++ (39 ∷ 39 ∷ doubled (drop (cond (not b) (1 + place) 0 + 1) (x ∷ xs)))
  cut_by true f h = refl
  cut_by false f h = further (f (omega (arith, h))) (1 + place) (one-add place)

  same_by : (b : Bool) → (place ≡ length xs → doubled xs ≡ xs) → cond (not b) (1 + place) 0 ≡ length (x ∷ xs) → (if b then 39 ∷ 39 ∷ [] else x ∷ []) ++ doubled xs ≡ x ∷ xs
  same_by true f h = absurd (omega (arith, h))
  same_by false f h = ap (λ t. x ∷ t) (f (omega (arith, h)))

-- a text with a quote: what stands before the first, two quotes, and the rest
pub doubled_at : (bs : List ℕ) → position_or_len is_quote bs < length bs → doubled bs ≡ before_first is_quote bs ++ (39 ∷ 39 ∷ doubled (after_first is_quote bs))
doubled_at [] h = absurd (omega (arith, h))
doubled_at (x ∷ xs) h = cut_by x xs (x == 39) (doubled_at xs) h

-- a text without one
pub doubled_none : (bs : List ℕ) → position_or_len is_quote bs ≡ length bs → doubled bs ≡ bs
doubled_none [] h = refl
doubled_none (x ∷ xs) h = same_by x xs (x == 39) (doubled_none xs) h

-- ---- the same of what `split_once` gives at a quote

pub doubled_around : (bs : List ℕ) (r : Option (Bor (List ℕ) × Bor (List ℕ))) (x : Bor (List ℕ) × Bor (List ℕ)) → IsSplitOnceResult 39 bs r → r ≡ Some x → doubled bs ≡ x.0.now ++ (39 ∷ 39 ∷ doubled x.1.now)
doubled_around bs r x h e =
    let p = split_once_first 39 bs (Some x) (subst (λ r. IsSplitOnceResult 39 bs r) e h) (lit< tt) in
    doubled_at bs p.0 ∙ ap (λ t. t ++ (39 ∷ 39 ∷ doubled (after_first is_quote bs))) (sym p.1) ∙ ap (λ t. x.0.now ++ (39 ∷ 39 ∷ doubled t)) (sym p.2)

pub doubled_whole : (bs : List ℕ) (r : Option (Bor (List ℕ) × Bor (List ℕ))) → IsSplitOnceResult 39 bs r → r ≡ None → doubled bs ≡ bs
doubled_whole bs r h e = doubled_none bs (split_once_first 39 bs None (subst (λ r. IsSplitOnceResult 39 bs r) e h) (lit< tt))
