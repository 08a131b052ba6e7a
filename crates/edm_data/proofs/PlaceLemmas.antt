-- Lists by their places.
use Rattle.std.proofs.Common.{◌≡◌, ℕ, zero, suc, ◌<◌, List, [], ◌∷◌, ◌++◌, length, get_or, refl, sym, ◌∙◌, ap, arith, ⊎_elim}
use Rattle.std.specs.List.{slice_get}
use Rattle.std.proofs.lemmas.List.{get_or_append_left}
use Rattle.std.proofs.lemmas.Bool.{cases_lt}
use Rattle.std.proofs.Math.Seq.{get_or-append_seam}
use Rattle.edm_values.specs.Lists.{places}
use Rattle.edm_values.proofs.TopPlaces.{length-places}

pub get_or-places : (n k d : ℕ) → k < n → get_or (places n) k d ≡ k
get_or-places zero k d h = absurd (omega arith)
get_or-places (suc n) k d h = ⊎_elim
    (λ less. let e = length-places n in get_or_append_left (places n) (n ∷ []) d k (omega arith) ∙ get_or-places n k d less)
    (λ more. let same : k ≡ n = omega arith in let size : length (places n) ≡ k = length-places n ∙ sym same in rw (← size) (get_or-append_seam (places n) n [] d ∙ sym (length-places n)))
    (cases_lt k n)

pub slice_get-push_before : {X : Type 0} (xs : List X) (y : X) (k : ℕ) → k < length xs → slice_get (xs ++ y ∷ []) k ≡ slice_get xs k
slice_get-push_before [] y k h = absurd (omega arith)
slice_get-push_before (x ∷ xs) y zero h = refl
slice_get-push_before (x ∷ xs) y (suc k) h = slice_get-push_before xs y k (omega arith)

-- the element of a list of places
pub place_is : (sets : List ℕ) (n i x : ℕ) → sets ≡ places n → i < length sets → x ≡ get_or sets i x → x ≡ i
place_is sets n i x are within item = item ∙ ap (λ l. get_or l i x) are ∙ get_or-places n i x (rw (ap length are ∙ length-places n) at within)

pub place_count : (sets : List ℕ) (n : ℕ) → sets ≡ places n → length sets ≡ n
place_count sets n are = ap length are ∙ length-places n
