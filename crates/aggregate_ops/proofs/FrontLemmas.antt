-- Groups by the first values of the keys are the groups by all of them, merged.
use Rattle.std.proofs.Common.{◌≡◌, ℕ, zero, suc, ◌+◌, ◌<◌, ◌≤◌, ◌≢◌, Bool, true, false, cond, not, List, [], ◌∷◌, ◌++◌, length, get_or, set, map, filter, take, drop, refl, sym, ◌∙◌, ap, subst, arith, Some, inl, inr, ⊎_elim, length-append}
use Rattle.std.specs.Prelude.{◌⊎◌, All, slice_get, slice_index, if◌then◌else◌}
use Rattle.std.specs.List.{list_any}
use Rattle.std.proofs.Math.Seq.{take-append_seam}
use Rattle.std.proofs.lemmas.Bool.{true≢false, cases_eq, not-true, not-false}
use Rattle.std.proofs.lemmas.List.{append-nil, get_or-map, get_or_append_left, get_or_default, get_or_push, get_or_read, length-map, map-append, take_all, take_more}
use Rattle.std.proofs.lemmas.List.Elements.{All-cons, All-head, All-nil, All-tail, All-filter, filter_passes}
use Rattle.std.proofs.lemmas.Option.{slice_get_within, slice_get-get_or}
use Rattle.indexmap.specs.IndexSet.{insert_key}
use Rattle.apply_meaning.proofs.AggregateForms.{distinct-next}
use Rattle.edm_values.specs.declared.Value.{Value}
use Rattle.edm_values.specs.Lists.{distinct}
use Rattle.edm_values.proofs.Reorderings.{TestsEquality}
use Rattle.apply_meaning.specs.Meaning.{same_keys}
use Rattle.apply_meaning.proofs.InstanceOrders.{same_keys_tests}
use Rattle.par_stages.specs.Placed.{placed}
use Rattle.par_stages.proofs.Places.{items-placed, placed-more}
use Rattle.aggregate_ops.specs.KeyTables.{groups_of, places_of}
use Rattle.aggregate_ops.specs.Fronts.{AreGroupNumbers, AreGroupsOf, AreNumberedTo, AreRowNumbers, Entry, IsApart, filled, fronts_of, key_at, places_at}
use Rattle.aggregate_ops.proofs.KeyTableLemmas.{places-more, same-back}

-- what is read back of a list that was written whole
pub written : (n : ℕ) (xs ys : List ℕ) → length xs ≡ n → take n (xs ++ drop (length xs) ys) ≡ xs
written n xs ys e = ap (λ k. take k (xs ++ drop (length xs) ys)) (sym e) ∙ take-append_seam xs (drop (length xs) ys)

-- ---- distinct images

module _ {X : Type 0} (eq : X → X → Bool) (t : TestsEquality eq) where
  filters-swap : (p q : X → Bool) (xs : List X) → filter p (filter q xs) ≡ filter q (filter p xs)
  filters-swap p q [] = refl
  filters-swap p q (x ∷ xs) = go (p x) (q x) refl refl (filters-swap p q xs)
    where
      go : (a b : Bool) → p x ≡ a → q x ≡ b → filter p (filter q xs) ≡ filter q (filter p xs)
          → filter p (cond (q x) (x ∷ filter q xs) (filter q xs)) ≡ filter q (cond (p x) (x ∷ filter p xs) (filter p xs))
      go true true h k r =
          ap (λ b. filter p (cond b (x ∷ filter q xs) (filter q xs))) k ∙ ap (λ b. cond b (x ∷ filter p (filter q xs)) (filter p (filter q xs))) h ∙ ap (λ l. x ∷ l) r
          ∙ sym (ap (λ b. filter q (cond b (x ∷ filter p xs) (filter p xs))) h ∙ ap (λ b. cond b (x ∷ filter q (filter p xs)) (filter q (filter p xs))) k)
      go true false h k r =
          ap (λ b. filter p (cond b (x ∷ filter q xs) (filter q xs))) k ∙ r
          ∙ sym (ap (λ b. filter q (cond b (x ∷ filter p xs) (filter p xs))) h ∙ ap (λ b. cond b (x ∷ filter q (filter p xs)) (filter q (filter p xs))) k)
      go false true h k r =
          ap (λ b. filter p (cond b (x ∷ filter q xs) (filter q xs))) k ∙ ap (λ b. cond b (x ∷ filter p (filter q xs)) (filter p (filter q xs))) h ∙ r
          ∙ sym (ap (λ b. filter q (cond b (x ∷ filter p xs) (filter p xs))) h)
      go false false h k r =
          ap (λ b. filter p (cond b (x ∷ filter q xs) (filter q xs))) k ∙ r
          ∙ sym (ap (λ b. filter q (cond b (x ∷ filter p xs) (filter p xs))) h)

  -- what is filtered twice
  filter-twice : (p : X → Bool) (xs : List X) → filter p (filter p xs) ≡ filter p xs
  filter-twice p [] = refl
  filter-twice p (x ∷ xs) = go (p x) refl (filter-twice p xs)
    where
      go : (a : Bool) → p x ≡ a → filter p (filter p xs) ≡ filter p xs → filter p (cond (p x) (x ∷ filter p xs) (filter p xs)) ≡ cond (p x) (x ∷ filter p xs) (filter p xs)
      go true h r = ap (λ b. filter p (cond b (x ∷ filter p xs) (filter p xs))) h ∙ ap (λ b. cond b (x ∷ filter p (filter p xs)) (filter p (filter p xs))) h ∙ ap (λ l. x ∷ l) r ∙ sym (ap (λ b. cond b (x ∷ filter p xs) (filter p xs)) h)
      go false h r = ap (λ b. filter p (cond b (x ∷ filter p xs) (filter p xs))) h ∙ r ∙ sym (ap (λ b. cond b (x ∷ filter p xs) (filter p xs)) h)

  module _ {Y : Type 0} (f : Y → X) where
    -- where all that is left out has one image, the other images stay
    others-stay : (u : X) (p : Y → Bool) → ((y : Y) → p y ≡ false → f y ≡ u) → (ys : List Y)
        → filter (λ x. not (eq u x)) (distinct eq (map f (filter p ys))) ≡ filter (λ x. not (eq u x)) (distinct eq (map f ys))
    others-stay u p out [] = refl
    others-stay u p out (y ∷ ys) = go (p y) refl (others-stay u p out ys)
      where
        apart : X → X → Bool
        apart v x = not (eq v x)

        own : filter (apart u) (f y ∷ filter (apart (f y)) (distinct eq (map f ys))) ≡ filter (apart u) (f y ∷ filter (apart (f y)) (distinct eq (map f ys)))
        own = refl

        go : (a : Bool) → p y ≡ a → filter (apart u) (distinct eq (map f (filter p ys))) ≡ filter (apart u) (distinct eq (map f ys))
            → filter (apart u) (distinct eq (map f (cond (p y) (y ∷ filter p ys) (filter p ys)))) ≡ filter (apart u) (f y ∷ filter (apart (f y)) (distinct eq (map f ys)))
        go true h r =
            ap (λ b. filter (apart u) (distinct eq (map f (cond b (y ∷ filter p ys) (filter p ys))))) h
            ∙ ap (λ l. cond (apart u (f y)) (f y ∷ l) l)
            (filters-swap (apart u) (apart (f y)) (distinct eq (map f (filter p ys))) ∙ ap (filter (apart (f y))) r ∙ filters-swap (apart (f y)) (apart u) (distinct eq (map f ys)))
        go false h r =
            let same = out y h in
            ap (λ b. filter (apart u) (distinct eq (map f (cond b (y ∷ filter p ys) (filter p ys))))) h
            ∙ r
            ∙ sym (
            ap (λ v. filter (apart u) (v ∷ filter (apart v) (distinct eq (map f ys)))) same
            ∙ ap (λ b. cond (not b) (u ∷ filter (apart u) (filter (apart u) (distinct eq (map f ys)))) (filter (apart u) (filter (apart u) (distinct eq (map f ys))))) (t.itself u)
            ∙ filter-twice (apart u) (distinct eq (map f ys))
            )

  -- the distinct images of distinct elements are those of all
  pub distinct-images : {Y : Type 0} (same : Y → Y → Bool) → TestsEquality same → (f : Y → X) (ys : List Y) → distinct eq (map f (distinct same ys)) ≡ distinct eq (map f ys)
  distinct-images same s f [] = refl
  distinct-images same s f (y ∷ ys) =
      ap (λ l. f y ∷ l)
      (others-stay f (f y) (λ z. not (same y z)) (λ z out. ap f (sym (s.same y z (not-false (same y z) out)))) (distinct same ys)
      ∙ ap (filter (λ x. not (eq (f y) x))) (distinct-images same s f ys))

-- ---- no key list twice

apart-filter : (p : List Value → Bool) (ks : List (List Value)) → IsApart ks → IsApart (filter p ks)
apart-filter p [] a = tt
apart-filter p (k ∷ ks) a = go (p k) (apart-filter p ks a.1)
  where
    go : (b : Bool) → IsApart (filter p ks) → IsApart (cond b (k ∷ filter p ks) (filter p ks))
    go true r = (All-filter p (λ l. same_keys k l ≡ false) ks a.0, r)
    go false r = r

pub distinct-apart : (ks : List (List Value)) → IsApart (distinct same_keys ks)
distinct-apart [] = tt
distinct-apart (k ∷ ks) = (
  λ i d h. not-true (same_keys k (get_or (filter (λ l. not (same_keys k l)) (distinct same_keys ks)) i d)) (filter_passes (λ l. not (same_keys k l)) (distinct same_keys ks) i d h),
  apart-filter (λ l. not (same_keys k l)) (distinct same_keys ks) (distinct-apart ks),
)

-- ---- the rows at the places of a group

behind : (before : List (List Value)) (k : List Value) (ks : List (List Value)) → slice_get (before ++ k ∷ ks) (length before) ≡ Some k
behind [] k ks = refl
behind (b ∷ before) k ks = behind before k ks

one-more : (before : List (List Value)) (k : List Value) → length (before ++ k ∷ []) ≡ length before + 1
one-more [] k = refl
one-more (b ∷ before) k = let e = one-more before k in omega arith

joined : (before : List (List Value)) (k : List Value) (ks : List (List Value)) → (before ++ k ∷ []) ++ ks ≡ before ++ k ∷ ks
joined [] k ks = refl
joined (b ∷ before) k ks = ap (λ l. b ∷ l) (joined before k ks)

-- each place of a key is that of a row with this key
places-right : (k : List Value) (before ks : List (List Value)) (n : ℕ) → n ≡ length before → All (λ p. slice_get (before ++ ks) p ≡ Some k) (places_of (placed n ks) k)
places-right k before [] n e = All-nil (λ p. slice_get (before ++ []) p ≡ Some k)
places-right k before (l ∷ ks) n e =
    let more = one-more before l in
    go (same_keys l k) refl (places-right k (before ++ l ∷ []) ks (n + 1) (omega arith))
  where
    P : ℕ → Type 0
    P p = slice_get (before ++ l ∷ ks) p ≡ Some k

    rest : List ℕ
    rest = places_of (placed (n + 1) ks) k

    Q : Bool → Type 0
    Q b = All P (map (λ x. x.1) (cond b ((l, n) ∷ filter (λ x. same_keys x.0 k) (placed (n + 1) ks)) (filter (λ x. same_keys x.0 k) (placed (n + 1) ks))))

    go : (b : Bool) → same_keys l k ≡ b → All (λ p. slice_get ((before ++ l ∷ []) ++ ks) p ≡ Some k) rest → Q (same_keys l k)
    go true h r =
        let R : List (List Value) → Type 0 = λ ys. All (λ p. slice_get ys p ≡ Some k) rest in
        let here : slice_get (before ++ l ∷ ks) n ≡ Some k = ap (slice_get (before ++ l ∷ ks)) e ∙ behind before l ks ∙ ap Some (same_keys_tests.same l k h) in
        subst Q (sym h) (All-cons P n rest here (subst R (joined before l ks) r))
    go false h r =
        let R : List (List Value) → Type 0 = λ ys. All (λ p. slice_get ys p ≡ Some k) rest in
        subst Q (sym h) (subst R (joined before l ks) r)

-- the row is among the places of its key
places-there : (k : List Value) (ks : List (List Value)) (n r : ℕ) → r < length ks → get_or ks r [] ≡ k → (t : ℕ) × (t < length (places_of (placed n ks) k)) × (get_or (places_of (placed n ks) k) t 0 ≡ n + r)
places-there k [] n r h e = absurd (omega arith)
places-there k (l ∷ ks) n r h e = go (same_keys l k) refl (λ r h e. places-there k ks (n + 1) r h e) r h e
  where
    rest : List (List Value × ℕ)
    rest = filter (λ x. same_keys x.0 k) (placed (n + 1) ks)

    Goal : Bool → ℕ → Type 0
    Goal b r = (t : ℕ) × (t < length (map (λ x. x.1) (cond b ((l, n) ∷ rest) rest))) × (get_or (map (λ x. x.1) (cond b ((l, n) ∷ rest) rest)) t 0 ≡ n + r)

    Later : Type 0
    Later = (r : ℕ) → r < length ks → get_or ks r [] ≡ k → (t : ℕ) × (t < length (places_of (placed (n + 1) ks) k)) × (get_or (places_of (placed (n + 1) ks) k) t 0 ≡ n + 1 + r)

    at : (b : Bool) → same_keys l k ≡ b → Later → (r : ℕ) → r < length (l ∷ ks) → get_or (l ∷ ks) r [] ≡ k → Goal b r
    at true g later zero h e = (0, omega arith, omega arith)
    at true g later (suc r) h e = let q = later r (omega arith) e in let m = q.1 in (suc q.0, omega arith, let s = q.2 in omega arith)
    at false g later zero h e = absurd (true≢false (sym (ap (λ l. same_keys l k) e ∙ same_keys_tests.itself k) ∙ g))
    at false g later (suc r) h e = let q = later r (omega arith) e in (q.0, q.1, let s = q.2 in omega arith)

    go : (b : Bool) → same_keys l k ≡ b → Later → (r : ℕ) → r < length (l ∷ ks) → get_or (l ∷ ks) r [] ≡ k → Goal (same_keys l k) r
    go b g later r h e = subst (λ b. Goal b r) (sym g) (at b g later r h e)

-- what passes is among what is filtered
filter-there : {X : Type 0} (p : X → Bool) (xs : List X) (i : ℕ) (d : X) → i < length xs → p (get_or xs i d) ≡ true → (j : ℕ) × (j < length (filter p xs)) × (get_or (filter p xs) j d ≡ get_or xs i d)
filter-there p [] i d h is = absurd (omega arith)
filter-there {X} p (x ∷ xs) i d h is = go (p x) refl (λ i h is. filter-there p xs i d h is) i h is
  where
    Goal : Bool → ℕ → Type 0
    Goal b i = (j : ℕ) × (j < length (cond b (x ∷ filter p xs) (filter p xs))) × (get_or (cond b (x ∷ filter p xs) (filter p xs)) j d ≡ get_or (x ∷ xs) i d)

    Later : Type 0
    Later = (i : ℕ) → i < length xs → p (get_or xs i d) ≡ true → (j : ℕ) × (j < length (filter p xs)) × (get_or (filter p xs) j d ≡ get_or xs i d)

    at : (b : Bool) → p x ≡ b → Later → (i : ℕ) → i < length (x ∷ xs) → p (get_or (x ∷ xs) i d) ≡ true → Goal b i
    at true g later zero h is = (0, omega arith, refl)
    at true g later (suc i) h is = let q = later i (omega arith) is in let m = q.1 in (suc q.0, omega arith, q.2)
    at false g later zero h is = absurd (true≢false (sym is ∙ g))
    at false g later (suc i) h is = later i (omega arith) is

    go : (b : Bool) → p x ≡ b → Later → (i : ℕ) → i < length (x ∷ xs) → p (get_or (x ∷ xs) i d) ≡ true → Goal (p x) i
    go b g later i h is = subst (λ b. Goal b i) (sym g) (at b g later i h is)

-- each key list is among the distinct ones
distinct-there : (ks : List (List Value)) (r : ℕ) → r < length ks → (i : ℕ) × (i < length (distinct same_keys ks)) × (get_or (distinct same_keys ks) i [] ≡ get_or ks r [])
distinct-there [] r h = absurd (omega arith)
distinct-there (k ∷ ks) zero h = (0, omega arith, refl)
distinct-there (k ∷ ks) (suc r) h =
    let q = distinct-there ks r (omega arith) in
    ⊎_elim
    (λ same. (0, omega arith, same_keys_tests.same k (get_or (distinct same_keys ks) q.0 []) same ∙ q.2))
    (λ other.
    let f = filter-there (λ l. not (same_keys k l)) (distinct same_keys ks) q.0 [] q.1 (ap not other) in
    let m = f.1 in
    (suc f.0, omega arith, f.2 ∙ q.2))
    (told (same_keys k (get_or (distinct same_keys ks) q.0 [])))
  where
    told : (b : Bool) → (b ≡ true) ⊎ (b ≡ false)
    told true = inl refl
    told false = inr refl

-- ---- groups of rows

module _ (rows : ℕ) (keys : List (List Value)) (groups : List Entry) (are : AreGroupsOf rows keys groups) where
  firsts : {X Y : Type 0} (f : X → Y) (xs : List X) → map {A = X × Y} (λ g. g.0) (map (λ x. (x, f x)) xs) ≡ xs
  firsts f [] = refl
  firsts f (x ∷ xs) = ap (λ ys. x ∷ ys) (firsts f xs)

  abbrev own : List (List Value)
  own = distinct same_keys keys

  made : groups ≡ map (λ k. (k, places_of (placed 0 keys) k)) own
  made = are.are ∙ ap (λ ks. map (λ k. (k, places_of (placed 0 keys) k)) (distinct same_keys ks)) (items-placed 0 keys)

  count : length groups ≡ length own
  count = ap length made ∙ length-map own (λ k. (k, places_of (placed 0 keys) k))

  group_is : (i : ℕ) → i < length groups → get_or groups i ([], []) ≡ (get_or own i [], places_of (placed 0 keys) (get_or own i []))
  group_is i h = ap (λ gs. get_or gs i ([], [])) made ∙ get_or-map (λ k. (k, places_of (placed 0 keys) k)) own i [] ([], []) (let c = count in omega arith)

  -- a row at a place of a group has the group's key
  pub row-key : (i t : ℕ) → i < length groups → t < length (places_at groups i) → get_or keys (get_or (places_at groups i) t 0) [] ≡ key_at groups i
  row-key i t h m =
      let g = group_is i h in
      let ps : places_at groups i ≡ places_of (placed 0 keys) (get_or own i []) = ap (λ g. g.1) g in
      let there = places-right (get_or own i []) [] keys 0 refl t 0 (let e = ap length ps in omega arith) in
      let at : slice_get keys (get_or (places_at groups i) t 0) ≡ Some (get_or own i []) = ap (λ ps. slice_get keys (get_or ps t 0)) ps ∙ there in
      let within = slice_get_within keys (get_or (places_at groups i) t 0) (get_or own i []) at in
      let e : Some (get_or keys (get_or (places_at groups i) t 0) []) ≡ Some (get_or own i []) = sym (slice_get-get_or keys (get_or (places_at groups i) t 0) [] within) ∙ at in
      let same : get_or keys (get_or (places_at groups i) t 0) [] ≡ get_or own i [] = cc in
      same ∙ sym (ap (λ g. g.0) g)

  pub row-key-at : (i t : ℕ) → i < length groups → t < length (places_at groups i) → slice_get keys (get_or (places_at groups i) t 0) ≡ Some (key_at groups i)
  row-key-at i t h m =
      let g = group_is i h in
      let ps : places_at groups i ≡ places_of (placed 0 keys) (get_or own i []) = ap (λ g. g.1) g in
      let there = places-right (get_or own i []) [] keys 0 refl t 0 (let e = ap length ps in omega arith) in
      ap (λ ps. slice_get keys (get_or ps t 0)) ps ∙ there ∙ ap (λ g. Some g.0) (sym g)

  -- each row is at a place of a group
  pub row-there : (r : ℕ) → r < rows → (i : ℕ) × (i < length groups) × ((t : ℕ) × (t < length (places_at groups i)) × (get_or (places_at groups i) t 0 ≡ r))
  row-there r h =
      let size = are.size in
      let d = distinct-there keys r (omega arith) in
      let c = count in
      let m = d.1 in
      let within : d.0 < length groups = omega arith in
      let g = group_is d.0 within in
      let ps : places_at groups d.0 ≡ places_of (placed 0 keys) (get_or own d.0 []) = ap (λ g. g.1) g in
      let q = places-there (get_or own d.0 []) keys 0 r (omega arith) (sym d.2) in
      let P : List ℕ → Type 0 = λ ps. (t : ℕ) × (t < length ps) × (get_or ps t 0 ≡ r) in
      (d.0, within, subst P (sym ps) (q.0, q.1, let s = q.2 in omega arith))

  -- the first values of the groups' keys are those of the rows' key lists
  pub fronts-same : (n : ℕ) → fronts_of n groups ≡ distinct same_keys (map (take n) keys)
  fronts-same n =
      ap (distinct same_keys) (maps n groups ∙ ap (map (take n)) (ap (map (λ g. g.0)) made ∙ firsts (places_of (placed 0 keys)) own))
      ∙ distinct-images same_keys same_keys_tests same_keys same_keys_tests (take n) keys
    where
      maps : (n : ℕ) (gs : List Entry) → map (λ g. take n g.0) gs ≡ map (take n) (map (λ g. g.0) gs)
      maps n [] = refl
      maps n (g ∷ gs) = ap (λ l. take n g.0 ∷ l) (maps n gs)

-- ---- a number at each row

pub numbered-next : (rows n : ℕ) (keys fronts : List (List Value)) (groups : List Entry) (numbers found found' : List ℕ) (i : ℕ) → AreGroupsOf rows keys groups → AreGroupNumbers n groups fronts numbers → i < length groups
    → ((t : ℕ) → t < length (places_at groups i) → slice_index found' (slice_index (places_at groups i) t) ≡ slice_index numbers i)
    → ((r : ℕ) → (slice_index found' r ≡ slice_index found r) ⊎ ((t : ℕ) × (t < length (places_at groups i)) × (slice_index (places_at groups i) t ≡ r) × (slice_index found' r ≡ slice_index numbers i)))
    → AreNumberedTo n keys fronts groups found i → AreNumberedTo n keys fronts groups found' (i + 1)
numbered-next rows n keys fronts groups numbers found found' i are told within put others before j t less m = ⊎_elim
    (λ last.
    let P : ℕ → Type 0 = λ j. t < length (places_at groups j) in
    let Q : ℕ → Type 0 = λ j. slice_get fronts (slice_index found' (get_or (places_at groups j) t 0)) ≡ Some (take n (get_or keys (get_or (places_at groups j) t 0) [])) in
    subst Q (sym last) (here t (subst P last m)))
    (λ other. ⊎_elim
    (λ same. ap (slice_get fronts) same ∙ before j t (let ne : j ≢ i = other in omega arith) m)
    (λ new.
    let Q : ℕ → Type 0 = λ r. slice_get fronts (slice_index found' r) ≡ Some (take n (get_or keys r [])) in
    subst Q new.2 (here new.0 new.1))
    (others (get_or (places_at groups j) t 0)))
    (cases_eq j i)
  where
    here : (t : ℕ) → t < length (places_at groups i) → slice_get fronts (slice_index found' (get_or (places_at groups i) t 0)) ≡ Some (take n (get_or keys (get_or (places_at groups i) t 0) []))
    here t m = ap (slice_get fronts) (put t m) ∙ told.told i within ∙ ap (λ k. Some (take n k)) (sym (row-key rows keys groups are i t within m))

-- all rows have their numbers
pub numbered-all : (rows n : ℕ) (keys fronts : List (List Value)) (groups : List Entry) (found : List ℕ) → AreGroupsOf rows keys groups → length found ≡ rows → AreNumberedTo n keys fronts groups found (length groups) → AreRowNumbers n keys fronts found
numbered-all rows n keys fronts groups found are size all = record {
  size = size ∙ sym are.size;
  told = λ r h.
      let e = are.size in
      let there = row-there rows keys groups are r (omega arith) in
      let P : ℕ → Type 0 = λ r. slice_get fronts (slice_index found r) ≡ Some (take n (get_or keys r [])) in
      subst P there.2.2 (all there.0 there.2.0 there.1 there.2.1);
}

-- ---- a row at its number

-- the groups of keys with the places that a function gives
abbrev given : (List Value → List ℕ) → List (List Value) → List Entry
given f ks = map (λ l. (l, f l)) ks

-- the group that has a place more
abbrev longer : List Entry → ℕ → ℕ → Entry
longer gs j r = ((get_or gs j ([], [])).0, (get_or gs j ([], [])).1 ++ r ∷ [])

-- the places of each key, with a place more of one
abbrev more_of : List Value → (List Value → List ℕ) → ℕ → List Value → List ℕ
more_of k f r l = f l ++ cond (same_keys k l) (r ∷ []) []

unlike : (k l : List Value) (f : List Value → List ℕ) (r : ℕ) → same_keys k l ≡ false → f l ≡ more_of k f r l
unlike k l f r out = sym (append-nil (f l)) ∙ ap (λ b. f l ++ cond b (r ∷ []) []) (sym out)

unlike-all : (k : List Value) (f : List Value → List ℕ) (r : ℕ) (fs : List (List Value)) → All (λ m. same_keys k m ≡ false) fs → given f fs ≡ given (more_of k f r) fs
unlike-all k f r [] a = refl
unlike-all k f r (m ∷ fs) a = λ i. (m, unlike k m f r (All-head (λ m. same_keys k m ≡ false) m fs a) i) ∷ unlike-all k f r fs (All-tail (λ m. same_keys k m ≡ false) m fs a) i

-- a place more in the group of a key
grown : (fronts : List (List Value)) (j : ℕ) (k : List Value) (f : List Value → List ℕ) (r : ℕ) → IsApart fronts → slice_get fronts j ≡ Some k → set (given f fronts) j (longer (given f fronts) j r) ≡ given (more_of k f r) fronts
grown [] j k f r apart at = absurd (cc)
grown (l ∷ fronts) zero k f r apart at =
    let same : l ≡ k = cc in
    let here : same_keys k l ≡ true = ap (λ k. same_keys k l) (sym same) ∙ same_keys_tests.itself l in
    let P : List Value → Type 0 = λ k. All (λ m. same_keys k m ≡ false) fronts in
    let own : f l ++ r ∷ [] ≡ more_of k f r l = ap (λ b. f l ++ cond b (r ∷ []) []) (sym here) in
    let rest = unlike-all k f r fronts (subst P same apart.0) in
    λ i. (l, own i) ∷ rest i
grown (l ∷ fronts) (suc j) k f r apart at =
    let within = slice_get_within fronts j k at in
    let e : Some (get_or fronts j []) ≡ Some k = sym (slice_get-get_or fronts j [] within) ∙ at in
    let is : get_or fronts j [] ≡ k = cc in
    let out : same_keys l k ≡ false = ap (same_keys l) (sym is) ∙ apart.0 j [] within in
    let own = unlike k l f r (same-back l k false out) in
    let rest = grown fronts j k f r apart.1 at in
    λ i. (l, own i) ∷ rest i

pub row-put : (fronts keys : List (List Value)) (r j : ℕ) (k : List Value) → IsApart fronts → r < length keys → k ≡ get_or keys r k → slice_get fronts j ≡ Some k → set (filled fronts (take r keys)) j (longer (filled fronts (take r keys)) j r) ≡ filled fronts (take (r + 1) keys)
row-put fronts keys r j k apart within is at =
    grown fronts j k (places_of (placed 0 (take r keys))) r apart at
    ∙ sym (maps fronts)
  where
    one : (l : List Value) → places_of (placed 0 (take (r + 1) keys)) l ≡ more_of k (places_of (placed 0 (take r keys))) r l
    one l = ap (λ ys. places_of ys l) (sym (placed-more r keys k within is)) ∙ places-more (placed 0 (take r keys)) k r l

    maps : (fs : List (List Value)) → given (places_of (placed 0 (take (r + 1) keys))) fs ≡ given (more_of k (places_of (placed 0 (take r keys))) r) fs
    maps [] = refl
    maps (l ∷ fs) = (λ i. (l, one l i) ∷ maps fs i)

-- a row goes to the group of its number
pub row-goes : (n : ℕ) (keys fronts : List (List Value)) (numbers : List ℕ) (groups : List Entry) (r : ℕ) (item g : Entry) → IsApart fronts → AreRowNumbers n keys fronts numbers → r < length numbers → groups ≡ filled fronts (take r (map (take n) keys))
    → item ≡ get_or groups (slice_index numbers r) item → g ≡ (item.0, item.1 ++ r ∷ []) → set groups (slice_index numbers r) g ≡ filled fronts (take (r + 1) (map (take n) keys))
row-goes n keys fronts numbers groups r item g apart told within before is new =
    let size = told.size in
    let wide = length-map keys (take n) in
    let there : r < length keys = omega arith in
    let at = told.told r there in
    let row = sym (get_or-map (take n) keys r [] (take n (get_or keys r [])) there) in
    let inside = slice_get_within fronts (slice_index numbers r) (take n (get_or keys r [])) at in
    let long : length groups ≡ length fronts = ap length before ∙ length-map fronts (λ k. (k, places_of (placed 0 (take r (map (take n) keys))) k)) in
    let read = get_or_read groups (slice_index numbers r) item (omega arith) is ([], []) in
    let tail : Entry → Entry = λ i. (i.0, i.1 ++ r ∷ []) in
    ap (set groups (slice_index numbers r)) (new ∙ ap tail read)
    ∙ ap (λ gs. set gs (slice_index numbers r) (longer gs (slice_index numbers r) r)) before
    ∙ row-put fronts (map (take n) keys) r (slice_index numbers r) (take n (get_or keys r [])) apart (omega arith) row at

pub rows-gone : (n : ℕ) (keys fronts : List (List Value)) (numbers : List ℕ) (r : ℕ) → AreRowNumbers n keys fronts numbers → length numbers ≤ r → filled fronts (take r (map (take n) keys)) ≡ filled fronts (map (take n) keys)
rows-gone n keys fronts numbers r told past = let size = told.size in let wide = length-map keys (take n) in ap (filled fronts) (take_all r (map (take n) keys) (omega arith))

-- a row's number is that of a front
pub row-numbers-within : (n : ℕ) (keys fronts : List (List Value)) (numbers : List ℕ) → AreRowNumbers n keys fronts numbers → All (λ j. j < length fronts) numbers
row-numbers-within n keys fronts numbers told i d h =
    let size = told.size in
    let at = told.told i (omega arith) in
    let inside = slice_get_within fronts (slice_index numbers i) (take n (get_or keys i [])) at in
    let e = get_or_default numbers i d 0 h in
    omega arith

-- the places of the groups are rows
pub places-within : (rows : ℕ) (keys : List (List Value)) (groups : List Entry) → AreGroupsOf rows keys groups → All (λ g. All (λ p. p < rows) g.1) groups
places-within rows keys groups are i d h t e m =
    let size = are.size in
    let g = get_or_default groups i d ([], []) h in
    let ps = ap (λ g. g.1) g in
    let k = row-key-at rows keys groups are i t h (let l = ap length ps in omega arith) in
    let inside = slice_get_within keys (get_or (places_at groups i) t 0) (key_at groups i) k in
    let f = get_or_default (get_or groups i d).1 t e 0 m in
    let q = ap (λ ps. get_or ps t 0) ps in
    omega arith

-- ---- the fronts of the groups

get-keeps : (ks : List (List Value)) (k x : List Value) (j : ℕ) → slice_get ks j ≡ Some x → slice_get (insert_key same_keys ks k) j ≡ Some x
get-keeps ks k x j at = go (list_any (same_keys k) ks)
  where
    before : (ks : List (List Value)) (j : ℕ) → slice_get ks j ≡ Some x → slice_get (ks ++ k ∷ []) j ≡ Some x
    before [] j at = absurd (cc)
    before (l ∷ ks) zero at = at
    before (l ∷ ks) (suc j) at = before ks j at

    go : (b : Bool) → slice_get (if b then ks else ks ++ k ∷ []) j ≡ Some x
    go true = at
    go false = before ks j at

-- the numbers of the first i groups
pub record AreNumbersTo (n : ℕ) (groups : List Entry) (fronts : List (List Value)) (numbers : List ℕ) (i : ℕ) : Type 0 where
  pub fronts_are : fronts ≡ fronts_of n (take i groups)
  pub size : length numbers ≡ i
  pub told : (j : ℕ) → j < i → slice_get fronts (slice_index numbers j) ≡ Some (take n (key_at groups j))

pub numbers-next : (n : ℕ) (groups : List Entry) (ks ks' : List (List Value)) (numbers : List ℕ) (i : ℕ) (item : Entry) (v k : List Value) (x : ℕ) → AreNumbersTo n groups ks numbers i → i < length groups → item ≡ get_or groups i item
    → v ≡ take n item.0 → ks' ≡ insert_key same_keys ks v → slice_get ks' x ≡ Some k → same_keys v k ≡ true → AreNumbersTo n groups ks' (numbers ++ x ∷ []) (i + 1)
numbers-next n groups ks ks' numbers i item v k x before within is front keys at same =
    let read = get_or_read groups i item within is ([], []) in
    let own : v ≡ take n (key_at groups i) = front ∙ ap (λ g. take n g.0) read in
    let long = before.size in
    let cut : Entry → List Value = λ g. take n g.0 in
    record {
      fronts_are =
          keys
          ∙ ap (λ l. insert_key same_keys l v) before.fronts_are
          ∙ ap (insert_key same_keys (fronts_of n (take i groups))) own
          ∙ sym (distinct-next same_keys same_keys_tests (map cut (take i groups)) (take n (key_at groups i)))
          ∙ ap (distinct same_keys) (sym (map-append cut (take i groups) (get_or groups i ([], []) ∷ [])))
          ∙ ap (λ gs. distinct same_keys (map cut gs)) (sym (take_more groups i ([], []) within));
      size = omega (arith, length-append numbers (x ∷ []));
      told = λ j less. ⊎_elim
          (λ last.
          let number : slice_index (numbers ++ x ∷ []) j ≡ x = get_or_push numbers x 0 j (omega arith) in
          ap (slice_get ks') number ∙ at ∙ ap Some (sym (same_keys_tests.same v k same) ∙ own ∙ ap (λ j. take n (key_at groups j)) (sym last)))
          (λ other.
          let ne : j ≢ i = other in
          let less' : j < i = omega arith in
          ap (slice_get ks') (get_or_append_left numbers (x ∷ []) 0 j (omega arith))
          ∙ ap (λ l. slice_get l (slice_index numbers j)) keys
          ∙ get-keeps ks v (take n (key_at groups j)) (slice_index numbers j) (before.told j less'))
          (cases_eq j i);
    }

pub numbers-done : (n : ℕ) (groups : List Entry) (fronts : List (List Value)) (numbers : List ℕ) (i : ℕ) → AreNumbersTo n groups fronts numbers i → i ≡ length groups → (fronts ≡ fronts_of n groups) × AreGroupNumbers n groups fronts numbers
numbers-done n groups fronts numbers i told all = (
  told.fronts_are ∙ ap (fronts_of n) (take_all i groups (omega arith)),
  record { size = told.size ∙ all; told = λ j h. told.told j (omega arith) },
)

-- ---- the merged groups

-- the groups by the first values
pub merged : (n rows : ℕ) (keys : List (List Value)) (groups : List Entry) → AreGroupsOf rows keys groups → filled (fronts_of n groups) (map (take n) keys) ≡ groups_of (placed 0 (map (take n) keys))
merged n rows keys groups are =
    ap (λ fs. filled fs (map (take n) keys)) (fronts-same rows keys groups are n ∙ ap (distinct same_keys) (sym (items-placed 0 (map (take n) keys))))
