-- Instances that are told by their places, one by one.
use Rattle.std.proofs.Common.{◌≡◌, ℕ, zero, suc, ◌+◌, ◌<◌, Bool, refl, sym, ◌∙◌, ap, List, [], ◌∷◌, ◌++◌, Option, Some, None, length, map, drop, get_or, arith, IsTrue, append_assoc, subst}
use Rattle.std.specs.Prelude.{nat_lt, slice_get}
use Rattle.std.specs.List.{cons_option, list_all}
use Rattle.std.proofs.lemmas.Bool.{and_parts, ltb-true}
use Rattle.std.proofs.lemmas.Option.{get_or_from_slice_get, slice_get-get_or}
use Rattle.edm_values.specs.Lists.{at_places}
use Rattle.edm_values.proofs.ListFacts.{all-at, all-filter_map}
use Rattle.edm_values.proofs.TopPlaces.{element-there}
use Rattle.apply_meaning.specs.Instances.{Instance}
use Rattle.row_frames.proofs.PlaceLemmas.{next-place, place-below}
use Rattle.row_values.specs.Placed.{are_within, placed_in}

-- there are as many as there are places
pub length-places : (l : List Instance) (ks : List ℕ) → IsTrue (list_all (λ k. nat_lt k (length l)) ks) → length (at_places l ks) ≡ length ks
length-places l [] all = refl
length-places l (k ∷ ks) all =
    let a = and_parts (nat_lt k (length l)) (list_all (λ k. nat_lt k (length l)) ks) all in
    let t = element-there l k (ltb-true k (length l) a.0) in
    ap (λ o. length (cons_option o (at_places l ks))) t.1 ∙ ap suc (length-places l ks a.1)

-- the one at the place of number n
pub row-place : (l : List Instance) (ks : List ℕ) (n : ℕ) (d : Instance) → IsTrue (list_all (λ k. nat_lt k (length l)) ks) → n < length ks → Some (get_or l (get_or ks n 0) d) ≡ slice_get (at_places l ks) n
row-place l [] n d all h = absurd (omega arith)
row-place l (k ∷ ks) zero d all h =
    let a = and_parts (nat_lt k (length l)) (list_all (λ k. nat_lt k (length l)) ks) all in
    sym (ap (λ o. slice_get (cons_option o (at_places l ks)) 0) (slice_get-get_or l k d (ltb-true k (length l) a.0)))
row-place l (k ∷ ks) (suc n) d all h =
    let a = and_parts (nat_lt k (length l)) (list_all (λ k. nat_lt k (length l)) ks) all in
    row-place l ks n d a.1 (omega arith) ∙ sym (ap (λ o. slice_get (cons_option o (at_places l ks)) (suc n)) (slice_get-get_or l k d (ltb-true k (length l) a.0)))

-- the one at a place that is taken passes, where all that are taken do
pub taken-passes : (p : Instance → Bool) (l : List Instance) (ks : List ℕ) (n : ℕ) (x : Instance) → IsTrue (list_all (λ k. nat_lt k (length l)) ks) → n < length ks → x ≡ get_or l (get_or ks n 0) x → IsTrue (list_all p (at_places l ks)) → IsTrue (p x)
taken-passes p l ks n x all h e a = all-at p (at_places l ks) n x a (sym (row-place l ks n x all h) ∙ ap Some (sym e))

-- places among places of a list are places of it
pub places-twice : (l : List Instance) (ks js : List ℕ) → IsTrue (list_all (λ k. nat_lt k (length l)) ks) → IsTrue (list_all (λ k. nat_lt k (length ks)) js) → at_places l (at_places ks js) ≡ at_places (at_places l ks) js
places-twice l ks [] all h = refl
places-twice l ks (j ∷ js) all h =
    let a = and_parts (nat_lt j (length ks)) (list_all (λ k. nat_lt k (length ks)) js) h in
    let b = ltb-true j (length ks) a.0 in
    let x = get_or ks j 0 in
    let there = element-there l x (place-below l ks j all b) in
    ap (λ o. at_places l (cons_option o (at_places ks js))) (slice_get-get_or ks j 0 b)
    ∙ ap (λ o. cons_option o (at_places l (at_places ks js))) there.1
    ∙ (λ i. sym (get_or_from_slice_get l x there.0 there.0 there.1) i ∷ places-twice l ks js all a.1 i)
    ∙ ap (λ o. cons_option o (at_places (at_places l ks) js)) (row-place l ks j there.0 all b)

-- and they are within it
pub places-within : (l : List Instance) (ks js : List ℕ) → IsTrue (list_all (λ k. nat_lt k (length l)) ks) → IsTrue (list_all (λ k. nat_lt k (length l)) (at_places ks js))
places-within l ks js all = all-filter_map (λ k. nat_lt k (length l)) (slice_get ks) js (λ j k e. all-at (λ k. nat_lt k (length l)) ks j k all e)

-- ---- all of a list, or those at places

pub placed-all : (l : List Instance) (o : Option (List ℕ)) → o ≡ None → placed_in l o ≡ l
placed-all l o e = ap (placed_in l) e

pub placed-some : (l : List Instance) (o : Option (List ℕ)) (ks : List ℕ) → o ≡ Some ks → placed_in l o ≡ at_places l ks
placed-some l o ks e = ap (placed_in l) e

-- the whole list is what is seen
pub seen-all : (l m : List Instance) (o : Option (List ℕ)) → o ≡ None → placed_in l o ≡ m → l ≡ m
seen-all l m o e h = sym (placed-all l o e) ∙ h

-- and those at places of it are
pub seen-at : (l m : List Instance) (o : Option (List ℕ)) (ks : List ℕ) → o ≡ Some ks → are_within l o → placed_in l o ≡ m → (at_places l ks ≡ m) × IsTrue (list_all (λ k. nat_lt k (length l)) ks)
seen-at l m o ks e within h = (sym (placed-some l o ks e) ∙ h, subst (are_within l) e within)

-- ---- from one to the next

-- what is made of the next of those at places, where the rest is made behind it
pub next-at : {Y : Type 0} (f : Instance → Y) (l : List Instance) (ks : List ℕ) (k : ℕ) (x : Instance) (ys : List Y) (y : Y) → IsTrue (list_all (λ k. nat_lt k (length l)) ks) → k < length ks → x ≡ get_or l (get_or ks k 0) x
    → y ≡ f x → map f (at_places l ks) ≡ ys ++ map f (at_places l (drop k ks)) → map f (at_places l ks) ≡ (ys ++ y ∷ []) ++ map f (at_places l (drop (k + 1) ks))
next-at f l ks k x ys y within h at made so_far =
    let rest = map f (at_places l (drop (k + 1) ks)) in
    so_far
    ∙ ap (λ xs. ys ++ map f xs) (next-place l ks k x within h at)
    ∙ ap (λ z. ys ++ z ∷ rest) (sym made)
    ∙ sym (append_assoc ys (y ∷ []) rest)
