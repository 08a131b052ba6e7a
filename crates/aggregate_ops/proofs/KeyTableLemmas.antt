-- Groups of a list of keys, with one key more.
use Rattle.std.proofs.Common.{◌≡◌, ℕ, ◌+◌, Bool, true, false, cond, not, List, [], ◌∷◌, ◌++◌, map, filter, if◌then◌else◌, refl, sym, ap, subst, ◌∙◌, arith, length-append}
use Rattle.std.specs.Global.{Vec}
use Rattle.std.proofs.lemmas.Bool.{true≢false}
use Rattle.std.proofs.lemmas.List.{append-nil, length-map, map-append}
use Rattle.std.proofs.lemmas.List.Elements.{filter-append}
use Rattle.edm_values.specs.declared.Value.{Value}
use Rattle.edm_values.specs.Lists.{distinct}
use Rattle.apply_meaning.specs.Meaning.{same_keys}
use Rattle.apply_meaning.proofs.InstanceOrders.{same_keys_tests}
use Rattle.aggregate_ops.specs.KeyTables.{TableState, ArePlacesOf, IsTableOf, groups_of, placed_keys, places_of, with_places}

-- a key and its places
abbrev pub Entry : Type 0
Entry = List Value × List ℕ

-- groups with one key more: its place goes to the group of the key, or makes a group behind the others
abbrev pub with_place : List Entry → List Value → ℕ → List Entry
with_place gs k p = with_places gs k (p ∷ [])

-- the groups of other keys than this
abbrev pub others : List Value → List Entry → List Entry
others k gs = filter (λ g. not (same_keys k g.0)) gs

-- ---- a list by its first key

pub places-first : (k : List Value) (p : ℕ) (ys : List (List Value × ℕ)) (d : List Value) (b : Bool) → same_keys k d ≡ b → places_of ((k, p) ∷ ys) d ≡ cond b (p ∷ places_of ys d) (places_of ys d)
places-first k p ys d true e = ap (λ b. map (λ x. x.1) (cond b ((k, p) ∷ filter (λ x. same_keys x.0 d) ys) (filter (λ x. same_keys x.0 d) ys))) e
places-first k p ys d false e = ap (λ b. map (λ x. x.1) (cond b ((k, p) ∷ filter (λ x. same_keys x.0 d) ys) (filter (λ x. same_keys x.0 d) ys))) e

groups-others : (k : List Value) (p : ℕ) (ys : List (List Value × ℕ)) (ds : List (List Value))
    → map (λ d. (d, places_of ((k, p) ∷ ys) d)) (filter (λ d. not (same_keys k d)) ds) ≡ others k (map (λ d. (d, places_of ys d)) ds)
groups-others k p ys [] = refl
groups-others k p ys (d ∷ ds) = go (same_keys k d) refl (groups-others k p ys ds)
  where
    left : List (List Value)
    left = filter (λ e. not (same_keys k e)) ds

    all : List Value → Entry
    all e = (e, places_of ((k, p) ∷ ys) e)

    go : (b : Bool) → same_keys k d ≡ b → map all left ≡ others k (map (λ e. (e, places_of ys e)) ds)
        → map all (cond (not (same_keys k d)) (d ∷ left) left) ≡ cond (not (same_keys k d)) ((d, places_of ys d) ∷ others k (map (λ e. (e, places_of ys e)) ds)) (others k (map (λ e. (e, places_of ys e)) ds))
    go true e r =
        ap (λ b. map all (cond (not b) (d ∷ left) left)) e ∙ r
        ∙ ap (λ b. cond (not b) ((d, places_of ys d) ∷ others k (map (λ e. (e, places_of ys e)) ds)) (others k (map (λ e. (e, places_of ys e)) ds))) (sym e)
    go false e r =
        ap (λ b. map all (cond (not b) (d ∷ left) left)) e
        ∙ (λ i. (d, places-first k p ys d false e i) ∷ r i)
        ∙ ap (λ b. cond (not b) ((d, places_of ys d) ∷ others k (map (λ e. (e, places_of ys e)) ds)) (others k (map (λ e. (e, places_of ys e)) ds))) (sym e)

-- the group of the first key, and the groups of the other keys of what follows
pub groups-first : (k : List Value) (p : ℕ) (ys : List (List Value × ℕ)) → groups_of ((k, p) ∷ ys) ≡ (k, p ∷ places_of ys k) ∷ others k (groups_of ys)
groups-first k p ys = λ i. (k, places-first k p ys k true (same_keys_tests.itself k) i) ∷ groups-others k p ys (distinct same_keys (map (λ x. x.0) ys)) i

-- ---- one key more

pub places-more : (ys : List (List Value × ℕ)) (k : List Value) (p : ℕ) (d : List Value) → places_of (ys ++ (k, p) ∷ []) d ≡ places_of ys d ++ cond (same_keys k d) (p ∷ []) []
places-more ys k p d =
    ap (map (λ x. x.1)) (filter-append (λ x. same_keys x.0 d) ys ((k, p) ∷ []))
    ∙ map-append (λ x. x.1) (filter (λ x. same_keys x.0 d) ys) (cond (same_keys k d) ((k, p) ∷ []) [])
    ∙ ap (λ l. places_of ys d ++ l) (one (same_keys k d))
  where
    one : (b : Bool) → map (λ (x : List Value × ℕ). x.1) (cond b ((k, p) ∷ []) []) ≡ cond b (p ∷ []) []
    one true = refl
    one false = refl

-- the groups of other keys stay
others-same : (d k : List Value) (p : ℕ) → same_keys d k ≡ true → (gs : List Entry) → others d (with_place gs k p) ≡ others d gs
others-same d k p e [] = ap (λ b. cond (not b) ((k, p ∷ []) ∷ []) []) e
others-same d k p e (g ∷ gs) = go (same_keys g.0 k) refl (others-same d k p e gs)
  where
    dropped : same_keys g.0 k ≡ true → same_keys d g.0 ≡ true
    dropped h = ap (same_keys d) (same_keys_tests.same g.0 k h) ∙ e

    go : (b : Bool) → same_keys g.0 k ≡ b → others d (with_place gs k p) ≡ others d gs → others d (if b then (g.0, g.1 ++ p ∷ []) ∷ gs else g ∷ with_place gs k p) ≡ others d (g ∷ gs)
    go true h r = (λ i. cond (not (dropped h i)) ((g.0, g.1 ++ p ∷ []) ∷ others d gs) (others d gs)) ∙ sym (λ i. cond (not (dropped h i)) (g ∷ others d gs) (others d gs))
    go false h r = ap (λ l. cond (not (same_keys d g.0)) (g ∷ l) l) r

-- the groups of other keys, where the key is among these
others-more : (d k : List Value) (p : ℕ) → same_keys d k ≡ false → (gs : List Entry) → others d (with_place gs k p) ≡ with_place (others d gs) k p
others-more d k p e [] = ap (λ b. cond (not b) ((k, p ∷ []) ∷ []) []) e
others-more d k p e (g ∷ gs) = go (same_keys g.0 k) (same_keys d g.0) refl refl (others-more d k p e gs)
  where
    go : (a b : Bool) → same_keys g.0 k ≡ a → same_keys d g.0 ≡ b → others d (with_place gs k p) ≡ with_place (others d gs) k p
        → others d (if same_keys g.0 k then (g.0, g.1 ++ p ∷ []) ∷ gs else g ∷ with_place gs k p) ≡ with_place (cond (not (same_keys d g.0)) (g ∷ others d gs) (others d gs)) k p
    go true true h m r = absurd (true≢false (sym m ∙ ap (same_keys d) (same_keys_tests.same g.0 k h) ∙ e))
    go true false h m r =
        ap (λ b. others d (if b then (g.0, g.1 ++ p ∷ []) ∷ gs else g ∷ with_place gs k p)) h
        ∙ ap (λ b. cond (not b) ((g.0, g.1 ++ p ∷ []) ∷ others d gs) (others d gs)) m
        ∙ sym (ap (λ b. with_place (cond (not b) (g ∷ others d gs) (others d gs)) k p) m ∙ ap (λ b. if b then (g.0, g.1 ++ p ∷ []) ∷ others d gs else g ∷ with_place (others d gs) k p) h)
    go false true h m r =
        ap (λ b. others d (if b then (g.0, g.1 ++ p ∷ []) ∷ gs else g ∷ with_place gs k p)) h
        ∙ ap (λ b. cond (not b) (g ∷ others d (with_place gs k p)) (others d (with_place gs k p))) m
        ∙ r
        ∙ sym (ap (λ b. with_place (cond (not b) (g ∷ others d gs) (others d gs)) k p) m)
    go false false h m r =
        ap (λ b. others d (if b then (g.0, g.1 ++ p ∷ []) ∷ gs else g ∷ with_place gs k p)) h
        ∙ ap (λ b. cond (not b) (g ∷ others d (with_place gs k p)) (others d (with_place gs k p))) m
        ∙ ap (λ l. g ∷ l) r
        ∙ sym (ap (λ b. with_place (cond (not b) (g ∷ others d gs) (others d gs)) k p) m ∙ ap (λ b. if b then (g.0, g.1 ++ p ∷ []) ∷ others d gs else g ∷ with_place (others d gs) k p) h)

pub same-back : (a b : List Value) (c : Bool) → same_keys a b ≡ c → same_keys b a ≡ c
same-back a b true h = ap (λ x. same_keys b x) (same_keys_tests.same a b h) ∙ same_keys_tests.itself b
same-back a b false h = go (same_keys b a) refl
  where
    go : (c : Bool) → same_keys b a ≡ c → same_keys b a ≡ false
    go false k = k
    go true k = absurd (true≢false (sym (ap (same_keys a) (same_keys_tests.same b a k) ∙ same_keys_tests.itself a) ∙ h))

-- the groups with one key more
pub groups-more : (ys : List (List Value × ℕ)) (k : List Value) (p : ℕ) → groups_of (ys ++ (k, p) ∷ []) ≡ with_place (groups_of ys) k p
groups-more [] k p = groups-first k p []
groups-more (y ∷ ys) k p = groups-first y.0 y.1 (ys ++ (k, p) ∷ []) ∙ go (same_keys y.0 k) refl (groups-more ys k p) ∙ ap (λ gs. with_place gs k p) (sym (groups-first y.0 y.1 ys))
  where
    left : List Entry
    left = others y.0 (groups_of ys)

    own : List ℕ
    own = places_of ys y.0

    go : (b : Bool) → same_keys y.0 k ≡ b → groups_of (ys ++ (k, p) ∷ []) ≡ with_place (groups_of ys) k p
        → (y.0, y.1 ∷ places_of (ys ++ (k, p) ∷ []) y.0) ∷ others y.0 (groups_of (ys ++ (k, p) ∷ [])) ≡ (if same_keys y.0 k then (y.0, (y.1 ∷ own) ++ p ∷ []) ∷ left else (y.0, y.1 ∷ own) ∷ with_place left k p)
    go true h r =
        (λ i. (y.0, y.1 ∷ (places-more ys k p y.0 ∙ ap (λ b. own ++ cond b (p ∷ []) []) (same-back y.0 k true h)) i) ∷ (ap (others y.0) r ∙ others-same y.0 k p h (groups_of ys)) i)
        ∙ ap (λ b. if b then (y.0, (y.1 ∷ own) ++ p ∷ []) ∷ left else (y.0, y.1 ∷ own) ∷ with_place left k p) (sym h)
    go false h r =
        (λ i. (y.0, y.1 ∷ (places-more ys k p y.0 ∙ ap (λ b. own ++ cond b (p ∷ []) []) (same-back y.0 k false h) ∙ append-nil own) i) ∷ (ap (others y.0) r ∙ others-more y.0 k p h (groups_of ys)) i)
        ∙ ap (λ b. if b then (y.0, (y.1 ∷ own) ++ p ∷ []) ∷ left else (y.0, y.1 ∷ own) ∷ with_place left k p) (sym h)

-- a key list was added to a table
pub ArePlacesOf-next : (t : TableState) (gs : List Entry) (xs : List (List Value × ℕ)) (k : List Value) (p : ℕ) → gs ≡ with_place t.groups k p → ArePlacesOf t xs
    → ArePlacesOf (record { width = t.width; count = t.count + 1; groups = gs }) (xs ++ (k, p) ∷ [])
ArePlacesOf-next t gs xs k p e h = record {
  count_is = omega (arith, length-append xs ((k, p) ∷ []), h.count_is);
  groups_is = e ∙ ap (λ l. with_place l k p) h.groups_is ∙ sym (groups-more xs k p);
}

-- a table stands for the key lists that its places stand for
pub places-table : (t : TableState) (xs : List (Vec Value × ℕ)) → ArePlacesOf t (placed_keys xs) → IsTableOf t xs
places-table t xs h = record { count_is = h.count_is ∙ length-map xs (λ x. (x.0.items, x.1)); groups_is = h.groups_is }

pub table-places : (t : TableState) (xs : List (Vec Value × ℕ)) → IsTableOf t xs → ArePlacesOf t (placed_keys xs)
table-places t xs h = record { count_is = h.count_is ∙ sym (length-map xs (λ x. (x.0.items, x.1))); groups_is = h.groups_is }

placed_keys-append : (us vs : List (Vec Value × ℕ)) → placed_keys (us ++ vs) ≡ placed_keys us ++ placed_keys vs
placed_keys-append us vs = map-append (λ (x : Vec Value × ℕ). (x.0.items, x.1)) us vs

-- where a key list was added to the places, it was added to the table
pub IsTableOf-next : (s t : TableState) (xs : List (Vec Value × ℕ)) (k : Vec Value) (key : List Value) (p : ℕ) → key ≡ k.items
    → ((us : List (List Value × ℕ)) → ArePlacesOf s us → ArePlacesOf t (us ++ (key, p) ∷ [])) → IsTableOf s xs → IsTableOf t (xs ++ (k, p) ∷ [])
IsTableOf-next s t xs k key p e added h =
    let own : placed_keys xs ++ (key, p) ∷ [] ≡ placed_keys (xs ++ (k, p) ∷ []) = ap (λ l. placed_keys xs ++ (l, p) ∷ []) e ∙ sym (placed_keys-append xs ((k, p) ∷ [])) in
    let P : List (List Value × ℕ) → Type 0 = λ us. ArePlacesOf t us in
    places-table t (xs ++ (k, p) ∷ []) (subst P own (added (placed_keys xs) (table-places s xs h)))

-- where later places were added to the places, they were added to the table
pub IsTableOf-merged : (s t u : TableState) (xs ys : List (Vec Value × ℕ)) → ((us vs : List (List Value × ℕ)) → ArePlacesOf s us → ArePlacesOf t vs → ArePlacesOf u (us ++ vs))
    → IsTableOf s xs → IsTableOf t ys → IsTableOf u (xs ++ ys)
IsTableOf-merged s t u xs ys merged h k =
    let P : List (List Value × ℕ) → Type 0 = λ us. ArePlacesOf u us in
    places-table u (xs ++ ys) (subst P (sym (placed_keys-append xs ys)) (merged (placed_keys xs) (placed_keys ys) (table-places s xs h) (table-places t ys k)))
