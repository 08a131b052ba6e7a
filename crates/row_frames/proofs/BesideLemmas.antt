-- Rows beside entities of one set, under an alias that is free.
use Rattle.std.proofs.Common.{◌≡◌, ◌∙◌, ℕ, zero, suc, ◌+◌, ◌<◌, ◌⊎◌, inl, inr, take, length, sym, refl, subst, ap, List, [], ◌∷◌, ◌++◌, map, get_or, drop, Bool, true, false, not, Option, Some, None, arith}
use Rattle.std.specs.Global.{Vec}
use Rattle.std.specs.Prelude.{slice_get, find, flat_map, option_map, if◌then◌else◌, unwrap_or}
use Rattle.std.specs.Arc.{arc_value}
use Rattle.std.specs.List.{All, AllZip, list_all, list_any}
use Rattle.std.proofs.lemmas.Bool.{and_parts, and_from, both_ways, false_from_ne_true, not-true, not_from_false, or_from, or_parts}
use Rattle.std.proofs.lemmas.List.{append-nil, append_assoc, length-append, length-map, map-append, take_more}
use Rattle.std.proofs.lemmas.List.Elements.{All-append, All-cons, All-head, All-map, All-nil, All-tail}
use Rattle.edm_values.specs.declared.Value.{Value}
use Rattle.edm_values.specs.Lists.{is_nonempty, are_distinct, same_text}
use Rattle.edm_values.specs.Names.{Name, Path}
use Rattle.edm_values.proofs.ListFacts.{all-append}
use Rattle.edm_values.proofs.OptionFacts.{none_or}
use Rattle.edm_values.proofs.SameTexts.{same_texts, text-self}
use Rattle.edm_data.specs.Worlds.{Entity, entity_at}
use Rattle.context_typing.proofs.TableLemmas.{different-append}
use Rattle.context_typing.specs.Paths.{at_path, begins, same_path}
use Rattle.apply_meaning.specs.Instances.{Instance}
use Rattle.apply_meaning.specs.Meaning.{beside, bound_to}
use Rattle.apply_meaning.specs.RowViews.{IsRow, row_instance, with_root}
use Rattle.join_concat.specs.Joins.{bound_rows, is_free_of}
use Rattle.row_frames.specs.declared.tables.Prefix.{Prefix}
use Rattle.row_frames.specs.declared.tables.Table.{Table}
use Rattle.row_frames.specs.declared.tables.Pick.{Pick}
use Rattle.row_frames.specs.Beside.{IsBeside, all_beside, beside_places, repeated, with_alias}
use Rattle.row_frames.specs.Frames.{IsTable, all_picked, bound_place, columns_at, instance_at, picked, picked_in, prefix_at, prefixes_at, root_at}
use Rattle.row_frames.specs.Gathered.{AreInOrder}
use Rattle.row_frames.specs.Related.{placed}
use Rattle.row_frames.proofs.GatherLemmas.{drop-at, drop-next, drop-within}

-- ---- what a row stands beside

flat-append : {X Y : Type 0} (f : X → List Y) (xs ys : List X) → flat_map f (xs ++ ys) ≡ flat_map f xs ++ flat_map f ys
flat-append f [] ys = refl
flat-append f (x ∷ xs) ys = ap (λ l. f x ++ l) (flat-append f xs ys) ∙ sym (append_assoc (f x) (flat_map f xs) (flat_map f ys))

-- one list more
pub beside-next : (outer : Bool) (inner : List (Vec ℕ)) (i : ℕ) (d : Vec ℕ) (all all' : List (Option ℕ)) → all ≡ all_beside outer (map (λ l. l.items) (take i inner)) → i < length inner → d ≡ get_or inner i d → all' ≡ all ++ beside_places outer d.items
    → all' ≡ all_beside outer (map (λ l. l.items) (take (i + 1) inner))
beside-next outer inner i d all all' inv l e m =
    let items : Vec ℕ → List ℕ = λ v. v.items in
    m
    ∙ ap (λ r. r ++ beside_places outer d.items) inv
    ∙ ap (λ r. all_beside outer (map items (take i inner)) ++ r) (sym (append-nil (beside_places outer d.items)))
    ∙ sym (flat-append (beside_places outer) (map items (take i inner)) (d.items ∷ []))
    ∙ ap (all_beside outer) (sym (map-append items (take i inner) (d ∷ [])))
    ∙ ap (λ vs. all_beside outer (map items vs)) (ap (λ q. take i inner ++ q ∷ []) e ∙ sym (take_more inner i d l))

-- where either list has ended, nothing is left
pub repeated-ended : (outer : Bool) (xs : List Pick) (vs : List (Vec ℕ)) → (xs ≡ []) ⊎ (vs ≡ []) → repeated outer xs (map (λ v. v.items) vs) ≡ []
repeated-ended outer xs vs (inl e) = ap (λ ys. repeated outer ys (map (λ (v : Vec ℕ). v.items) vs)) e
repeated-ended outer xs vs (inr e) = ap (λ ws. repeated outer xs (map (λ (v : Vec ℕ). v.items) ws)) e ∙ none xs
  where
    none : (ys : List Pick) → repeated outer ys [] ≡ []
    none [] = refl
    none (y ∷ ys) = refl

-- ---- instances beside places

-- each instance with the entity, or none, at its place
abbrev pub all_with : Name → ℕ → List Instance → List (Option ℕ) → List Instance
all_with a s [] os = []
all_with a s (i ∷ l) [] = []
all_with a s (i ∷ l) (o ∷ os) = with_alias a s i o ∷ all_with a s l os

with-append : (a : Name) (s : ℕ) (l m : List Instance) (os ps : List (Option ℕ)) → length l ≡ length os → all_with a s (l ++ m) (os ++ ps) ≡ all_with a s l os ++ all_with a s m ps
with-append a s [] m [] ps e = refl
with-append a s [] m (o ∷ os) ps e = absurd (omega (arith, e))
with-append a s (i ∷ l) m [] ps e = absurd (omega (arith, e))
with-append a s (i ∷ l) m (o ∷ os) ps e = ap (λ r. with_alias a s i o ∷ r) (with-append a s l m os ps (omega (arith, e)))

abbrev made : List (Path × Option Entity) → List (Path × Value) → Instance
made ps cs = record { prefixes = ps; columns = cs }

with-entity : (a : Name) (s : ℕ) (i : Instance) (k : ℕ) → with_alias a s i (Some k) ≡ beside a i (placed s k)
with-entity a s i k = ap (λ cs. record { prefixes = i.prefixes ++ (a ∷ [], Some (entity_at s k)) ∷ []; columns = cs }) (sym (append-nil i.columns))

with-each : (a : Name) (s : ℕ) (i : Instance) (ks : List ℕ) → all_with a s (map (λ o. i) (map (λ k. Some k) ks)) (map (λ k. Some k) ks) ≡ map (beside a i) (map (placed s) ks)
with-each a s i [] = refl
with-each a s i (k ∷ ks) = λ j. with-entity a s i k j ∷ with-each a s i ks j

with-one : (outer : Bool) (a : Name) (s : ℕ) (i : Instance) (ks : List ℕ) → all_with a s (map (λ o. i) (beside_places outer ks)) (beside_places outer ks) ≡ bound_to outer a i (map (placed s) ks)
with-one true a s i [] = refl
with-one true a s i (k ∷ ks) = with-each a s i (k ∷ ks)
with-one false a s i ks = with-each a s i ks

picked-same : (ts : List Table) (x : Pick) (os : List (Option ℕ)) → all_picked ts (map (λ o. x) os) ≡ map (λ o. picked ts x) os
picked-same ts x [] = refl
picked-same ts x (o ∷ os) = ap (λ l. picked ts x ∷ l) (picked-same ts x os)

-- what is repeated, with what stands beside it, is the join
pub repeated-bound : (outer : Bool) (a : Name) (s : ℕ) (ts : List Table) (xs : List Pick) (lists : List (List ℕ)) → length lists ≡ length xs
    → all_with a s (all_picked ts (repeated outer xs lists)) (all_beside outer lists) ≡ bound_rows outer a (all_picked ts xs) (map (map (placed s)) lists)
repeated-bound outer a s ts [] [] e = refl
repeated-bound outer a s ts [] (l ∷ lists) e = refl
repeated-bound outer a s ts (x ∷ xs) [] e = refl
repeated-bound outer a s ts (x ∷ xs) (l ∷ lists) e =
    let os = beside_places outer l in
    let i = picked ts x in
    let split = map-append (picked ts) (map (λ (o : Option ℕ). x) os) (repeated outer xs lists) ∙ ap (λ r. r ++ all_picked ts (repeated outer xs lists)) (picked-same ts x os) in
    ap (λ r. all_with a s r (os ++ all_beside outer lists)) split
    ∙ with-append a s (map (λ o. i) os) (all_picked ts (repeated outer xs lists)) os (all_beside outer lists) (length-map os (λ o. i))
    ∙ (λ j. with-one outer a s i l j ++ repeated-bound outer a s ts xs lists (omega (arith, e)) j)

-- what is repeated is of the same tables
pub repeated-within : (n : ℕ) (outer : Bool) (xs : List Pick) (lists : List (List ℕ)) → All (λ x. x.table < n) xs → All (λ x. x.table < n) (repeated outer xs lists)
repeated-within n outer [] lists h = All-nil (λ (x : Pick). x.table < n)
repeated-within n outer (x ∷ xs) [] h = All-nil (λ (x : Pick). x.table < n)
repeated-within n outer (x ∷ xs) (l ∷ lists) h =
    let W = λ (y : Pick). y.table < n in
    let os = beside_places outer l in
    let head = All-head W x xs h in
    All-append W (map (λ (o : Option ℕ). x) os) (repeated outer xs lists) (All-map W (λ (o : Option ℕ). x) os (λ k d z. head)) (repeated-within n outer xs lists (All-tail W x xs h))

same-all : (p : Instance → Bool) (ts : List Table) (x : Pick) (os : List (Option ℕ)) → p (picked ts x) ≡ true → list_all p (all_picked ts (map (λ o. x) os)) ≡ true
same-all p ts x [] h = refl
same-all p ts x (o ∷ os) h = and_from _ _ h (same-all p ts x os h)

-- and what holds of all instances holds of what is repeated
pub repeated-all : (p : Instance → Bool) (outer : Bool) (ts : List Table) (xs : List Pick) (lists : List (List ℕ)) → list_all p (all_picked ts xs) ≡ true → list_all p (all_picked ts (repeated outer xs lists)) ≡ true
repeated-all p outer ts [] lists h = refl
repeated-all p outer ts (x ∷ xs) [] h = refl
repeated-all p outer ts (x ∷ xs) (l ∷ lists) h =
    let os = beside_places outer l in
    let t = and_parts (p (picked ts x)) (list_all p (all_picked ts xs)) h in
    ap (list_all p) (map-append (picked ts) (map (λ (o : Option ℕ). x) os) (repeated outer xs lists))
    ∙ all-append p (all_picked ts (map (λ (o : Option ℕ). x) os)) (all_picked ts (repeated outer xs lists)) (same-all p ts x os t.0) (repeated-all p outer ts xs lists t.1)

-- ---- a table with one more prefix

-- a free name begins no prefix, and no prefix but the empty one
free-prefixes : (a : Name) (r : Option Entity) (ps : List (Path × Option Entity)) (cs : List (Path × Value)) → is_free_of a (row_instance r ps cs) ≡ true → list_any (λ x. begins a x.0) ps ≡ false
free-prefixes a None ps cs h = not-true _ (and_parts (not (list_any (λ (x : Path × Option Entity). begins a x.0) ps)) _ h).0
free-prefixes a (Some e) ps cs h = not-true _ (and_parts (not (list_any (λ (x : Path × Option Entity). begins a x.0) ps)) _ h).0

-- no path of one name is found among those that do not begin with it
not-begun : (a : Name) (p : Path) → begins a p ≡ false → same_path p (a ∷ []) ≡ false
not-begun a [] h = refl
not-begun a (n ∷ p) h = false_from_ne_true _ (λ e.
    let t = and_parts (same_text n a) (same_path p []) e in
    both_ways (begins a (n ∷ p)) h (ap (same_text a) (same_texts n a t.0) ∙ text-self a))

pub not-found : (a : Name) (ps : List (Path × Option Entity)) → list_any (λ x. begins a x.0) ps ≡ false → at_path (λ x. x.0) ps (a ∷ []) ≡ None
not-found a [] h = refl
not-found a (x ∷ ps) h =
    let t = or_parts (begins a x.0) (list_any (λ (y : Path × Option Entity). begins a y.0) ps) h in
    ap (λ b. if b then Some x else find (λ (y : Path × Option Entity). same_path y.0 (a ∷ [])) ps) (not-begun a x.0 t.0) ∙ not-found a ps t.1

-- a path that is not found differs from all
apart-found : (q : Path) (ps : List (Path × Option Entity)) → at_path (λ x. x.0) ps q ≡ None → list_all (λ p. not (list_any (same_path p) (q ∷ []))) (map (λ x. x.0) ps) ≡ true
apart-found q [] h = refl
apart-found q (x ∷ ps) h = go (same_path x.0 q) refl (λ z. apart-found q ps z)
  where
    go : (b : Bool) → same_path x.0 q ≡ b → (at_path (λ (y : Path × Option Entity). y.0) ps q ≡ None → list_all (λ p. not (list_any (same_path p) (q ∷ []))) (map (λ x. x.0) ps) ≡ true)
        → list_all (λ p. not (list_any (same_path p) (q ∷ []))) (map (λ x. x.0) (x ∷ ps)) ≡ true
    go true e rest = none_or x (sym h ∙ ap (λ b. if b then Some x else at_path (λ (y : Path × Option Entity). y.0) ps q) e)
    go false e rest = and_from _ _ (not_from_false _ (or_from _ _ e refl)) (rest (sym (ap (λ b. if b then Some x else at_path (λ (y : Path × Option Entity). y.0) ps q) e) ∙ h))

long-path : (p : Path) → 0 < length p → is_nonempty p ≡ true
long-path [] h = absurd (omega (arith, h))
long-path (n ∷ p) h = refl

-- a row with one more prefix is a row
more-prefixes : (ps : List (Path × Option Entity)) (cs : List (Path × Value)) (q : Path × Option Entity) → 0 < length q.0 → at_path (λ x. x.0) ps q.0 ≡ None → IsRow ps cs → IsRow (ps ++ q ∷ []) cs
more-prefixes ps cs q long none R = record {
  paths = all-append (λ (x : Path × Option Entity). is_nonempty x.0) ps (q ∷ []) R.paths (and_from _ _ (long-path q.0 long) refl);
  prefixes = ap (are_distinct same_path) (map-append (λ (x : Path × Option Entity). x.0) ps (q ∷ [])) ∙ different-append (map (λ x. x.0) ps) (q.0 ∷ []) R.prefixes refl (apart-found q.0 ps none);
  columns = R.columns;
}

pub widened-by : (p : Prefix) (t u : Table) → 0 < length p.path → ((k : ℕ) → at_path (λ x. x.0) (prefixes_at t k) p.path ≡ None) → ((k : ℕ) → root_at u.roots k ≡ root_at t.roots k) → ((k : ℕ) → columns_at u k ≡ columns_at t k)
    → ((k : ℕ) → prefixes_at u k ≡ prefixes_at t k ++ prefix_at k p ∷ []) → IsBeside p t u
widened-by p t u long none r c e = record {
  roots = r;
  columns = c;
  prefixes = λ k h. e k;
  table = λ T k.
      subst (λ ps. IsRow ps (columns_at u k)) (sym (e k)) (subst (IsRow (prefixes_at t k ++ prefix_at k p ∷ [])) (sym (c k)) (more-prefixes (prefixes_at t k) (columns_at t k) (prefix_at k p) long (none k) (T k)));
}

-- a table that has the path already
pub same-beside : (p : Prefix) (t : Table) → ((k : ℕ) → at_path (λ x. x.0) (prefixes_at t k) p.path ≡ None → ⊥) → IsBeside p t t
same-beside p t h = record { roots = λ k. refl; columns = λ k. refl; prefixes = λ k n. absurd (h k n); table = λ T. T }

-- ---- its rows

rooted : (r : Option Entity) (ps : List (Path × Option Entity)) (q : Path × Option Entity) → with_root r (ps ++ q ∷ []) ≡ with_root r ps ++ q ∷ []
rooted None ps q = refl
rooted (Some e) ps q = refl

beside-instance : (p : Prefix) (a : Name) (s k : ℕ) (o : Option ℕ) (t u : Table) → IsBeside p t u → p.path ≡ a ∷ [] → p.set ≡ s → bound_place k p ≡ o → is_free_of a (instance_at t k) ≡ true
    → instance_at u k ≡ with_alias a s (instance_at t k) o
beside-instance p a s k o t u B path set at free =
    let ps = prefixes_at t k in
    let r = root_at t.roots k in
    let none : at_path (λ x. x.0) ps p.path ≡ None = ap (at_path (λ (x : Path × Option Entity). x.0) ps) path ∙ not-found a ps (free-prefixes a r ps (columns_at t k) free) in
    let q : prefix_at k p ≡ (a ∷ [], option_map (entity_at s) o) = λ j. (path j, option_map (entity_at (set j)) (at j)) in
    (λ j. row_instance (B.roots k j) (B.prefixes k none j) (B.columns k j))
    ∙ ap (λ qs. made qs (columns_at t k)) (rooted r ps (prefix_at k p) ∙ ap (λ x. with_root r ps ++ x ∷ []) q)

zip-beside : (p : Prefix) (a : Name) (s n k : ℕ) (o : Option ℕ) (ts us : List Table) → AllZip (IsBeside p) ts us → p.path ≡ a ∷ [] → p.set ≡ s → bound_place k p ≡ o → n < length ts → is_free_of a (picked_in (slice_get ts n) k) ≡ true
    → picked_in (slice_get us n) k ≡ with_alias a s (picked_in (slice_get ts n) k) o
zip-beside p a s n k o [] us z path set at h free = absurd (omega (arith, h))
zip-beside p a s n k o (t ∷ ts) [] z path set at h free = absurd z
zip-beside p a s zero k o (t ∷ ts) (u ∷ us) z path set at h free = beside-instance p a s k o t u z.0 path set at free
zip-beside p a s (suc n) k o (t ∷ ts) (u ∷ us) z path set at h free = zip-beside p a s n k o ts us z.1 path set at (omega (arith, h)) free

-- what stands at the place of an element
drop-get : {X : Type 0} (l : List X) (n : ℕ) (x : X) (rest : List X) → drop n l ≡ x ∷ rest → slice_get l n ≡ Some x
drop-get [] zero x rest e = cc
drop-get [] (suc n) x rest e = cc
drop-get (y ∷ l) zero x rest e = let s : y ≡ x = cc in ap (λ z. Some z) s
drop-get (y ∷ l) (suc n) x rest e = drop-get l n x rest e

get-same : (ys : List Pick) (k : ℕ) (d : Pick) → get_or (map (λ (y : Pick). y) ys) k d ≡ get_or ys k d
get-same [] k d = refl
get-same (y ∷ ys) zero d = refl
get-same (y ∷ ys) (suc k) d = get-same ys k d

beside-from : (p : Prefix) (a : Name) (s : ℕ) (ts us : List Table) (all : List Pick) (n : ℕ) (xs : List Pick) (os : List (Option ℕ)) → AllZip (IsBeside p) ts us → p.path ≡ a ∷ [] → p.set ≡ s → AreInOrder all → All (λ x. x.table < length ts) xs
    → list_all (is_free_of a) (all_picked ts xs) ≡ true → drop n all ≡ xs → drop n (arc_value p.places).items ≡ os → length xs ≡ length os → all_picked us xs ≡ all_with a s (all_picked ts xs) os
beside-from p a s ts us all n [] os z path set O W free D P e = refl
beside-from p a s ts us all n (x ∷ xs) [] z path set O W free D P e = absurd (omega (arith, e))
beside-from p a s ts us all n (x ∷ xs) (o ∷ os) z path set O W free D P e =
    let In = λ (y : Pick). y.table < length ts in
    let d : Pick = record { table = 0; row = 0 } in
    let own : get_or all n d ≡ x = sym (get-same all n d) ∙ drop-at (λ (y : Pick). y) all n d x xs D in
    let row : x.row ≡ n = ap (λ (y : Pick). y.row) (sym own) ∙ O n d (drop-within all n x xs D) in
    let at : bound_place x.row p ≡ o = ap (λ k. bound_place k p) row ∙ ap (λ q. unwrap_or q None) (drop-get (arc_value p.places).items n o os P) in
    let f = and_parts (is_free_of a (picked ts x)) (list_all (is_free_of a) (all_picked ts xs)) free in
    let here = zip-beside p a s x.table x.row o ts us z path set at (All-head In x xs W) f.0 in
    let rest = beside-from p a s ts us all (suc n) xs os z path set O (All-tail In x xs W) f.1 (drop-next all n x xs D) (drop-next (arc_value p.places).items n o os P) (omega (arith, e)) in
    λ j. here j ∷ rest j

-- ---- the whole

long-beside : (outer : Bool) (xs : List Pick) (lists : List (List ℕ)) → length lists ≡ length xs → length (repeated outer xs lists) ≡ length (all_beside outer lists)
long-beside outer [] [] e = refl
long-beside outer [] (l ∷ lists) e = absurd (omega (arith, e))
long-beside outer (x ∷ xs) [] e = absurd (omega (arith, e))
long-beside outer (x ∷ xs) (l ∷ lists) e =
    let os = beside_places outer l in
    let here = length-append (map (λ (o : Option ℕ). x) os) (repeated outer xs lists) in
    let there = length-append os (all_beside outer lists) in
    let one = length-map os (λ (o : Option ℕ). x) in
    let rest = long-beside outer xs lists (omega (arith, e)) in
    omega (arith, here, there, one, rest)

-- the tables and picks of a join
pub join-picked : (outer : Bool) (p : Prefix) (a : Name) (s : ℕ) (ts ts' us : List Table) (xs ys : List Pick) (lists : List (List ℕ)) → length lists ≡ length xs → list_all (is_free_of a) (all_picked ts xs) ≡ true
    → all_picked ts' ys ≡ all_picked ts (repeated outer xs lists) → AreInOrder ys → All (λ x. x.table < length ts') ys → AllZip (IsBeside p) ts' us → p.path ≡ a ∷ [] → p.set ≡ s → (arc_value p.places).items ≡ all_beside outer lists
    → all_picked us ys ≡ bound_rows outer a (all_picked ts xs) (map (map (placed s)) lists)
join-picked outer p a s ts ts' us xs ys lists e free same O W z path set places =
    let long : length ys ≡ length (all_beside outer lists) =
    sym (length-map ys (picked ts')) ∙ ap length same ∙ length-map (repeated outer xs lists) (picked ts) ∙ long-beside outer xs lists e in
    beside-from p a s ts' us ys 0 ys (all_beside outer lists) z path set O W (ap (list_all (is_free_of a)) same ∙ repeated-all (is_free_of a) outer ts xs lists free) refl places long
    ∙ ap (λ l. all_with a s l (all_beside outer lists)) same
    ∙ repeated-bound outer a s ts xs lists e

pub beside-all : (p : Prefix) (ts us : List Table) → AllZip (IsBeside p) ts us → All IsTable ts → All IsTable us
beside-all p [] [] z h = All-nil IsTable
beside-all p [] (u ∷ us) z h = absurd z
beside-all p (t ∷ ts) [] z h = absurd z
beside-all p (t ∷ ts) (u ∷ us) z h = All-cons IsTable u us ((z.0).table (All-head IsTable t ts h)) (beside-all p ts us z.1 (All-tail IsTable t ts h))

-- ---- tables one by one

-- what the tables so far come to, whatever those that are left come to
abbrev pub BesideSoFar : Prefix → List Table → List Table → List Table → Type 0
BesideSoFar p all done rest = (us : List Table) → AllZip (IsBeside p) rest us → AllZip (IsBeside p) all (done ++ us)

-- one table more
pub beside-more : (p : Prefix) (all done done' rest rest' : List Table) (t u : Table) → BesideSoFar p all done rest → rest ≡ t ∷ rest' → IsBeside p t u → done' ≡ done ++ u ∷ [] → BesideSoFar p all done' rest'
beside-more p all done done' rest rest' t u S e b m us z =
    subst (AllZip (IsBeside p) all) (sym (append_assoc done (u ∷ []) us) ∙ ap (λ ts. ts ++ us) (sym m)) (S (u ∷ us) (subst (λ ts. AllZip (IsBeside p) ts (u ∷ us)) (sym e) (b, z)))

pub beside-done : (p : Prefix) (all done rest : List Table) → BesideSoFar p all done rest → length rest ≡ 0 → AllZip (IsBeside p) all done
beside-done p all done [] S z = subst (AllZip (IsBeside p) all) (append-nil done) (S [] tt)
beside-done p all done (t ∷ rest) S z = absurd (omega (arith, z))

-- one time more
pub times-more : {X : Type 0} (x : X) (os : List (Option ℕ)) (i : ℕ) (all done done' : List X) → done ≡ all ++ map (λ o. x) (take i os) → i < length os → done' ≡ done ++ x ∷ [] → done' ≡ all ++ map (λ o. x) (take (i + 1) os)
times-more {X = X} x os i all done done' inv l m =
    let same : Option ℕ → X = λ o. x in
    m
    ∙ ap (λ r. r ++ x ∷ []) inv
    ∙ append_assoc all (map same (take i os)) (x ∷ [])
    ∙ ap (λ r. all ++ r) (sym (ap (map same) (take_more os i None l) ∙ map-append same (take i os) (get_or os i None ∷ [])))
