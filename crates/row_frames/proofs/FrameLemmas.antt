-- Picks of rows, and readers of tables.
use Rattle.std.proofs.Common.{◌≡◌, ℕ, zero, suc, ◌+◌, ◌<◌, length, sym, refl, subst, ◌∙◌, ap, List, [], ◌∷◌, ◌++◌, map, take, get_or, arith, Some, true, drop}
use Rattle.std.specs.Prelude.{slice_get}
use Rattle.std.specs.List.{All, list_all}
use Rattle.std.proofs.lemmas.Bool.{and_parts}
use Rattle.std.proofs.lemmas.List.{length-map, take_more, map-append, take-map, drop-map}
use Rattle.std.proofs.lemmas.List.Elements.{All-push, All-cons, All-nil, All-map, All-get_or, All-same, All-take, All-drop}
use Rattle.edm_values.specs.Lists.{places}
use Rattle.edm_data.specs.Worlds.{World, entity_at}
use Rattle.apply_meaning.specs.Instances.{entity_instance}
use Rattle.apply_meaning.specs.RowViews.{is_of}
use Rattle.row_frames.specs.declared.tables.Table.{Table}
use Rattle.row_frames.specs.declared.tables.Pick.{Pick}
use Rattle.row_frames.specs.Frames.{instance_at, picked, picked_in, first_pick, all_picked, IsTable}

-- one reader more
pub more-readers : {R : Type 0} (table_of : R → Table) (IsOf : R → Type 0) (ts : List Table) (rs rs' : List R) (n : ℕ) (t : Table) (r : R)
    → (map table_of rs ≡ take n ts) × All IsOf rs → n < length ts → t ≡ get_or ts n t → table_of r ≡ t → IsOf r → rs' ≡ rs ++ r ∷ []
    → (map table_of rs' ≡ take (n + 1) ts) × All IsOf rs'
more-readers table_of IsOf ts rs rs' n t r h l i s b m = (
  ap (map table_of) m ∙ map-append table_of rs (r ∷ []) ∙ ap (λ x. x ++ table_of r ∷ []) h.0 ∙ ap (λ x. take n ts ++ x ∷ []) (s ∙ i) ∙ sym (take_more ts n t l),
  All-same IsOf rs' (rs ++ r ∷ []) m (All-push IsOf rs r h.1 b),
)

reader-at : {R : Type 0} (table_of : R → Table) (rs : List R) (i : ℕ) (r : R) → i < length (map table_of rs) → r ≡ get_or rs i r → slice_get (map table_of rs) i ≡ Some (table_of r)
reader-at table_of [] i r h e = absurd (omega (arith, h))
reader-at table_of (x ∷ rs) zero r h e = ap (λ y. Some (table_of y)) (sym e)
reader-at table_of (x ∷ rs) (suc i) r h e = reader-at table_of rs i r (omega (arith, h)) e

-- the reader of a pick's table, and the instance that is picked
pub own-reader : {R : Type 0} (table_of : R → Table) (IsOf : R → Type 0) (ts : List Table) (rs : List R) (x : Pick) (r : R) → map table_of rs ≡ ts → All IsOf rs → x.table < length ts → r ≡ get_or rs x.table r
    → (picked ts x ≡ instance_at (table_of r) x.row) × IsOf r
own-reader table_of IsOf ts rs x r same all l i =
    let n : length (map table_of rs) ≡ length ts = ap length same in
    let inside : x.table < length (map table_of rs) = omega (arith, n, l) in
    let m = length-map rs table_of in (
      ap (λ ts. picked_in (slice_get ts x.table) x.row) (sym same) ∙ ap (λ o. picked_in o x.row) (reader-at table_of rs x.table r inside i),
      subst IsOf (sym i) (All-get_or IsOf rs x.table r (omega (arith, m, inside)) all),
    )

-- the picks of the first table are within one table
pub first-within : (n m : ℕ) → 0 < m → All (λ x. x.table < m) (map first_pick (places n))
first-within n m z = All-map (λ (x : Pick). x.table < m) first_pick (places n) (λ k d h. z)

-- the rows of a table of a set's entities
pub set-picked : (s n : ℕ) (t : Table) (ts : List Table) (xs : List Pick) → ts ≡ t ∷ [] → xs ≡ map first_pick (places n) → ((k : ℕ) → instance_at t k ≡ entity_instance (entity_at s k))
    → all_picked ts xs ≡ map entity_instance (map (entity_at s) (places n))
set-picked s n t ts xs e f h = ap (λ y. all_picked y xs) e ∙ ap (all_picked (t ∷ [])) f ∙ go (places n)
  where
    go : (ks : List ℕ) → map (picked (t ∷ [])) (map first_pick ks) ≡ map entity_instance (map (entity_at s) ks)
    go [] = refl
    go (k ∷ ks) = ap (λ y. y ∷ map (picked (t ∷ [])) (map first_pick ks)) (h k) ∙ ap (λ l. entity_instance (entity_at s k) ∷ l) (go ks)

pub one-table : (t : Table) (ts : List Table) → ts ≡ t ∷ [] → IsTable t → All IsTable ts
one-table t ts e h = All-same IsTable ts (t ∷ []) e (All-cons IsTable t [] h (All-nil IsTable))

-- what is picked is of the world
pub picked-of : (w : World) (ts : List Table) (xs : List Pick) (k : ℕ) (d : Pick) → k < length xs → list_all (is_of w) (all_picked ts xs) ≡ true → is_of w (picked ts (get_or xs k d)) ≡ true
picked-of w ts [] k d h a = absurd (omega (arith, h))
picked-of w ts (x ∷ xs) zero d h a = (and_parts (is_of w (picked ts x)) (list_all (is_of w) (all_picked ts xs)) a).0
picked-of w ts (x ∷ xs) (suc k) d h a = picked-of w ts xs k d (omega (arith, h)) (and_parts (is_of w (picked ts x)) (list_all (is_of w) (all_picked ts xs)) a).1

-- ---- the first, and the others

-- the first of the picks
pub top-picked : (ts : List Table) (n : ℕ) (xs ys : List Pick) → ys ≡ take n xs → all_picked ts ys ≡ take n (all_picked ts xs)
top-picked ts n xs ys e = ap (all_picked ts) e ∙ sym (take-map (picked ts) n xs)

pub top-within : (m n : ℕ) (xs ys : List Pick) → ys ≡ take n xs → All (λ x. x.table < m) xs → All (λ x. x.table < m) ys
top-within m n xs ys e h = All-same (λ (x : Pick). x.table < m) ys (take n xs) e (All-take (λ (x : Pick). x.table < m) n xs h)

-- and the others
pub skip-picked : (ts : List Table) (n : ℕ) (xs ys : List Pick) → ys ≡ drop n xs → all_picked ts ys ≡ drop n (all_picked ts xs)
skip-picked ts n xs ys e = ap (all_picked ts) e ∙ sym (drop-map (picked ts) n xs)

pub skip-within : (m n : ℕ) (xs ys : List Pick) → ys ≡ drop n xs → All (λ x. x.table < m) xs → All (λ x. x.table < m) ys
skip-within m n xs ys e h = All-same (λ (x : Pick). x.table < m) ys (drop n xs) e (All-drop (λ (x : Pick). x.table < m) n xs h)
