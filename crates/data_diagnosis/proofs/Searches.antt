-- The first element of a list that passes a test.
use Rattle.std.proofs.Common.{◌≡◌, ℕ, zero, suc, ◌+◌, ◌<◌, Bool, true, false, cond, List, [], ◌∷◌, length, take, get_or, refl, sym, ◌∙◌, ap, arith, Some, None}
use Rattle.std.specs.List.{position, position_from, slice_get}
use Rattle.std.proofs.lemmas.Iterator.Adapters.{position_from-zero}
use Rattle.std.proofs.lemmas.Option.{slice_get_read, none-some}

found_from : {X : Type 0} (p : X → Bool) (i : ℕ) (xs : List X) (k n : ℕ) (x : X) → k < n → slice_get xs k ≡ Some x → position_from p i (take k xs) ≡ None → p x ≡ true → position_from p i (take n xs) ≡ Some (i + k)
found_from p i xs k zero x less at none passes = absurd (omega arith)
found_from p i [] k (suc n) x less at none passes = cc
found_from p i (y ∷ ys) zero (suc n) x less at none passes = let same : y ≡ x = cc in rw (same, passes) (ap Some (omega arith))
found_from p i (y ∷ ys) (suc k) (suc n) x less at none passes =
    (elim (p y) as (λ b. cond b (Some i) (position_from p (i + 1) (take k ys)) ≡ None → cond b (Some i) (position_from p (i + 1) (take n ys)) ≡ Some (i + suc k)) [ true ↦ λ e. absurd (none-some i (sym e)) | false ↦ λ e. found_from p (i + 1) ys k n x (omega arith) at e passes ∙ ap Some (omega arith) ]) none

-- the element at k is the first that passes
pub position-found : {X : Type 0} (p : X → Bool) (xs : List X) (k n : ℕ) (x : X) → k < n → k < length xs → x ≡ get_or xs k x → position p (take k xs) ≡ None → p x ≡ true → position p (take n xs) ≡ Some k
position-found p xs k n x less within item none passes =
    position_from-zero p (take n xs) ∙ found_from p 0 xs k n x less (slice_get_read xs (length xs) k x refl within item) (sym (position_from-zero p (take k xs)) ∙ none) passes ∙ ap Some (omega arith)
