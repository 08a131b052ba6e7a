-- The loop that reads a text literal, one turn after another.
use Rattle.std.proofs.Common.{◌≡◌, ℕ, ◌<◌, ◌==◌, Bool, true, false, List, [], ◌∷◌, ◌++◌, length, Some, None, refl, sym, ap, ◌∙◌, arith}
use Rattle.std.proofs.lemmas.Bool.{ne_eqb}
use Rattle.std.proofs.lemmas.List.{append-nil}
use Rattle.apply_grammar.specs.Reading.{◌>>=◌, branch, Leaf, after, quote_at}
use Rattle.apply_grammar.proofs.Runs.{after_is}
use Rattle.apply_grammar.proofs.Leaves.{quote_plain}
use Rattle.apply_grammar.proofs.Lists.{with_front, front_more}

-- ---- a text literal

quote_two : (t : List ℕ) → quote_at (39 ∷ t) ≡ branch (after 39 t) (λ r. quote_at r >>= λ x. Some (39 ∷ x.0, x.1)) (Some ([], t))
unfolding quote_at after
quote_two [] = refl
quote_two (c ∷ t) = two_step (c == 39) c t refl
  where
    two_step : (b : Bool) (c : ℕ) (t : List ℕ) → (c == 39) ≡ b → quote_at (39 ∷ (c ∷ t)) ≡ branch (after 39 (c ∷ t)) (λ r. quote_at r >>= λ x. Some (39 ∷ x.0, x.1)) (Some ([], c ∷ t))
    two_step true c t e = rw e refl
    two_step false c t e = rw e refl

pub quote_byte : (b : ℕ) (t r front : List ℕ) (total : Leaf (List ℕ)) → t ≡ b ∷ r → (b ≡ 39 → ⊥) → with_front front (quote_at t) ≡ total → with_front (front ++ b ∷ []) (quote_at r) ≡ total
quote_byte b t r front total h n e =
    sym (front_more front b (quote_at r)) ∙ ap (with_front front) (sym (ap quote_at h ∙ quote_plain b r (ne_eqb b 39 n))) ∙ e

pub quote_pair : (b : ℕ) (t r s front : List ℕ) (total : Leaf (List ℕ)) → t ≡ b ∷ r → b ≡ 39 → Some s ≡ after 39 r → with_front front (quote_at t) ≡ total → with_front (front ++ 39 ∷ []) (quote_at s) ≡ total
quote_pair b t r s front total h i k e =
    let q : quote_at t ≡ (quote_at s >>= λ x. Some (39 ∷ x.0, x.1)) = ap quote_at (h ∙ ap (λ x. x ∷ r) i) ∙ quote_two r ∙ ap (λ o. branch o (λ r. quote_at r >>= λ x. Some (39 ∷ x.0, x.1)) (Some ([], r))) (sym k) in
    sym (front_more front 39 (quote_at s)) ∙ ap (with_front front) (sym q) ∙ e

pub quote_last : (b : ℕ) (t r front : List ℕ) (total : Leaf (List ℕ)) → t ≡ b ∷ r → b ≡ 39 → None ≡ after 39 r → with_front front (quote_at t) ≡ total → total ≡ Some (front, r)
quote_last b t r front total h i k e =
    let q : quote_at t ≡ Some ([], r) = ap quote_at (h ∙ ap (λ x. x ∷ r) i) ∙ quote_two r ∙ ap (λ o. branch o (λ r. quote_at r >>= λ x. Some (39 ∷ x.0, x.1)) (Some ([], r))) (sym k) in
    sym e ∙ ap (with_front front) q ∙ ap (λ l. Some (l, r)) (append-nil front)

pub quote_empty : (t front : List ℕ) (total : Leaf (List ℕ)) → length t ≡ 0 → with_front front (quote_at t) ≡ total → total ≡ None
unfolding quote_at
quote_empty [] front total h e = sym e
quote_empty (b ∷ t) front total h e = absurd (omega arith)

pub after_shorter : (a : ℕ) (t r : List ℕ) → Some r ≡ after a t → length r < length t
after_shorter a t r h = omega (arith, ap length (after_is a t (sym h)))
