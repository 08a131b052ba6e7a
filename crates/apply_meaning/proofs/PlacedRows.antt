-- The instances at places, from one place to the next.
use Rattle.std.proofs.Common.{◌≡◌, ℕ, suc, ◌+◌, ◌<◌, sym, ◌∙◌, ap, List, ◌∷◌, length, drop, get_or, drop-cons, add-one, IsTrue}
use Rattle.std.specs.Prelude.{nat_lt}
use Rattle.std.specs.List.{cons_option, list_all}
use Rattle.std.proofs.lemmas.Bool.{ltb-true}
use Rattle.std.proofs.lemmas.Option.{slice_get-get_or}
use Rattle.edm_values.specs.Lists.{at_places}
use Rattle.edm_values.proofs.ListFacts.{all-at}
use Rattle.apply_meaning.specs.Instances.{Instance}

-- the next place of the list that is there
pub next-place : (l : List Instance) (ks : List ℕ) (i : ℕ) (x : Instance) → IsTrue (list_all (λ k. nat_lt k (length l)) ks) → i < length ks → x ≡ get_or l (get_or ks i 0) x → at_places l (drop i ks) ≡ x ∷ at_places l (drop (i + 1) ks)
next-place l ks i x all h r =
    let k = get_or ks i 0 in
    let g : k < length l = ltb-true k (length l) (all-at (λ k. nat_lt k (length l)) ks i k all (slice_get-get_or ks i 0 h)) in
    ap (at_places l) (drop-cons ks i 0 h)
    ∙ ap (λ o. cons_option o (at_places l (drop (suc i) ks))) (slice_get-get_or l k x g)
    ∙ ap (λ y. y ∷ at_places l (drop (suc i) ks)) (sym r)
    ∙ ap (λ n. x ∷ at_places l (drop n ks)) (sym (add-one i))
