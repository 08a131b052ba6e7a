-- Elements of lists at places, and picks at places.
use Rattle.std.proofs.Common.{◌≡◌, ℕ, zero, suc, ◌+◌, ◌<◌, refl, sym, ◌∙◌, ap, List, [], ◌∷◌, ◌++◌, Option, Some, None, length, map, drop, drop-cons, get_or, add-one, arith, IsTrue, append_assoc, subst}
use Rattle.std.specs.Prelude.{nat_lt, option_map, slice_get}
use Rattle.std.specs.List.{All, cons_option, list_all}
use Rattle.std.proofs.lemmas.Bool.{and_parts, ltb-true}
use Rattle.std.proofs.lemmas.List.{get_or_default, length-map}
use Rattle.std.proofs.lemmas.List.Elements.{All-cons, All-nil, All-get_or}
use Rattle.std.proofs.lemmas.Option.{slice_get-get_or, slice_get-map}
use Rattle.edm_values.specs.Lists.{at_places}
use Rattle.edm_values.proofs.ListFacts.{all-at}
use Rattle.apply_meaning.specs.Instances.{Instance, no_instance}
use Rattle.row_frames.specs.declared.tables.Table.{Table}
use Rattle.row_frames.specs.declared.tables.Pick.{Pick}
use Rattle.row_frames.specs.Frames.{all_picked, picked}

-- the next place is one of the list
pub place-below : {X : Type 0} (l : List X) (ks : List ℕ) (i : ℕ) → IsTrue (list_all (λ k. nat_lt k (length l)) ks) → i < length ks → get_or ks i 0 < length l
place-below l ks i all h = ltb-true (get_or ks i 0) (length l) (all-at (λ k. nat_lt k (length l)) ks i (get_or ks i 0) all (slice_get-get_or ks i 0 h))

-- the elements at the places from one on
pub next-place : {X : Type 0} (l : List X) (ks : List ℕ) (i : ℕ) (x : X) → IsTrue (list_all (λ k. nat_lt k (length l)) ks) → i < length ks → x ≡ get_or l (get_or ks i 0) x → at_places l (drop i ks) ≡ x ∷ at_places l (drop (i + 1) ks)
next-place l ks i x all h r =
    ap (at_places l) (drop-cons ks i 0 h)
    ∙ ap (λ o. cons_option o (at_places l (drop (suc i) ks))) (slice_get-get_or l (get_or ks i 0) x (place-below l ks i all h))
    ∙ ap (λ y. y ∷ at_places l (drop (suc i) ks)) (sym r)
    ∙ ap (λ n. x ∷ at_places l (drop n ks)) (sym (add-one i))

-- one element more
pub more-placed : {X : Type 0} (l : List X) (ks : List ℕ) (i : ℕ) (x : X) (found found' : List X) → IsTrue (list_all (λ k. nat_lt k (length l)) ks) → i < length ks → x ≡ get_or l (get_or ks i 0) x
    → found' ≡ found ++ x ∷ [] → at_places l ks ≡ found ++ at_places l (drop i ks) → at_places l ks ≡ found' ++ at_places l (drop (i + 1) ks)
more-placed l ks i x found found' all h r m so_far =
    so_far
    ∙ ap (λ xs. found ++ xs) (next-place l ks i x all h r)
    ∙ sym (append_assoc found (x ∷ []) (at_places l (drop (i + 1) ks)))
    ∙ ap (λ xs. xs ++ at_places l (drop (i + 1) ks)) (sym m)

-- the same, where the element is read by its place
pub more-copied : {X : Type 0} (l : List X) (ks : List ℕ) (i : ℕ) (d : X) (found found' : List X) → IsTrue (list_all (λ k. nat_lt k (length l)) ks) → i < length ks
    → found' ≡ found ++ get_or l (get_or ks i 0) d ∷ [] → at_places l ks ≡ found ++ at_places l (drop i ks) → at_places l ks ≡ found' ++ at_places l (drop (i + 1) ks)
more-copied l ks i d found found' all h m so_far =
    let x = get_or l (get_or ks i 0) d in
    more-placed l ks i x found found' all h (get_or_default l (get_or ks i 0) d x (place-below l ks i all h)) m so_far

map-next : {X Y : Type 0} (f : X → Y) (o : Option X) (l : List X) → map f (cons_option o l) ≡ cons_option (option_map f o) (map f l)
map-next f None l = refl
map-next f (Some x) l = refl

-- what is picked at places
pub picked-at : (ts : List Table) (xs : List Pick) (ks : List ℕ) → all_picked ts (at_places xs ks) ≡ at_places (all_picked ts xs) ks
picked-at ts xs [] = refl
picked-at ts xs (k ∷ ks) =
    map-next (picked ts) (slice_get xs k) (at_places xs ks)
    ∙ (λ i. cons_option (sym (slice_get-map (picked ts) xs k) i) (picked-at ts xs ks i))

-- the picks at places are of tables that are there
pub at-within : {X : Type 0} (P : X → Type 0) (l : List X) (ks : List ℕ) → IsTrue (list_all (λ k. nat_lt k (length l)) ks) → All P l → All P (at_places l ks)
at-within P l [] all h = All-nil P
at-within P [] (k ∷ ks) all h = at-within P [] ks (and_parts (nat_lt k 0) (list_all (λ k. nat_lt k 0) ks) all).1 h
at-within P (x ∷ l) (k ∷ ks) all h =
    let a = and_parts (nat_lt k (length (x ∷ l))) (list_all (λ k. nat_lt k (length (x ∷ l))) ks) all in
    let b = ltb-true k (length (x ∷ l)) a.0 in
    subst (λ o. All P (cons_option o (at_places (x ∷ l) ks))) (sym (slice_get-get_or (x ∷ l) k x b)) (All-cons P (get_or (x ∷ l) k x) (at_places (x ∷ l) ks) (All-get_or P (x ∷ l) k x b h) (at-within P (x ∷ l) ks a.1 h))

-- places among the picks are places among what is picked
pub places-picked : (ts : List Table) (xs : List Pick) (ks : List ℕ) → IsTrue (list_all (λ k. nat_lt k (length (all_picked ts xs))) ks) → IsTrue (list_all (λ k. nat_lt k (length xs)) ks)
places-picked ts xs ks h = subst (λ n. IsTrue (list_all (λ k. nat_lt k n) ks)) (length-map xs (picked ts)) h

-- and so are places among the instances that it is seen as
pub places-seen : (ts : List Table) (xs : List Pick) (l : List Instance) (ks : List ℕ) → all_picked ts xs ≡ l → IsTrue (list_all (λ k. nat_lt k (length l)) ks) → IsTrue (list_all (λ k. nat_lt k (length xs)) ks)
places-seen ts xs l ks seen h = places-picked ts xs ks (subst (λ (m : List Instance). IsTrue (list_all (λ k. nat_lt k (length m)) ks)) (sym seen) h)

-- the one at a place
pub one-picked : (ts : List Table) (xs : List Pick) (k : ℕ) (x : Pick) → k < length (all_picked ts xs) → x ≡ get_or xs k x → picked ts x ≡ get_or (all_picked ts xs) k no_instance
one-picked ts [] k x h e = absurd (omega (arith, h))
one-picked ts (y ∷ xs) zero x h e = ap (picked ts) e
one-picked ts (y ∷ xs) (suc k) x h e = one-picked ts xs k x (omega (arith, h)) e
