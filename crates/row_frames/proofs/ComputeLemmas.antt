-- Tables with new columns.
use Rattle.std.proofs.Common.{◌≡◌, ◌∙◌, ℕ, zero, suc, ◌+◌, ◌<◌, ◌==◌, ◌||◌, length, sym, refl, subst, ap, List, [], ◌∷◌, ◌++◌, map, get_or, drop, Some, Bool, true, false, arith}
use Rattle.std.specs.Prelude.{slice_get, option_map, unwrap_or}
use Rattle.std.specs.Arc.{arc_value}
use Rattle.std.specs.List.{All, list_any}
use Rattle.std.proofs.lemmas.Bool.{eq-eqb, eqb-true}
use Rattle.std.proofs.lemmas.List.{append-nil, append_assoc, length-append, length-map, map-append}
use Rattle.std.proofs.lemmas.List.Elements.{All-cons, All-nil, All-head, All-tail}
use Rattle.std.proofs.lemmas.List.Folds.{list_any_at}
use Rattle.std.proofs.lemmas.Option.{get_or_from_slice_get, slice_get-get_or, slice_get-map}
use Rattle.edm_values.specs.declared.Value.{Value}
use Rattle.edm_values.specs.Lists.{are_distinct}
use Rattle.edm_values.specs.Names.{Path}
use Rattle.edm_values.proofs.ListFacts.{all-at}
use Rattle.edm_data.specs.Worlds.{World}
use Rattle.context_typing.specs.Paths.{same_path}
use Rattle.apply_ast.specs.Views.{expr_of, named_of}
use Rattle.apply_ast.specs.declared.items.Named as of_named
use Rattle.apply_meaning.specs.Instances.{Instance, extended, val}
use Rattle.apply_meaning.specs.Meaning.{values}
use Rattle.apply_meaning.specs.RowViews.{columns_differ, row_instance}
use Rattle.apply_meaning.specs.Running.{all_free, new_columns}
use Rattle.row_frames.specs.declared.tables.Column.{Column}
use Rattle.row_frames.specs.declared.tables.Table.{Table}
use Rattle.row_frames.specs.declared.tables.Pick.{Pick}
use Rattle.row_frames.specs.Frames.{IsTable, all_picked, column_at, columns_at, instance_at, listed, picked, picked_in, prefixes_at}
use Rattle.row_frames.specs.Gathered.{AreComputed, AreInOrder, IsComputed, IsWidened}
use Rattle.row_frames.proofs.GatherLemmas.{column-paths, drop-at, drop-next, drop-within, row-of, there}

-- an element that passes
any-at : {X : Type 0} (p : X → Bool) (xs : List X) (d : X) → list_any p xs ≡ true → (k : ℕ) × (k < length xs) × (p (get_or xs k d) ≡ true)
any-at p [] d h = cc
any-at {X} p (x ∷ xs) d h = go (p x) refl (λ g. any-at p xs d g) h
  where
    go : (b : Bool) → p x ≡ b → (list_any p xs ≡ true → (k : ℕ) × (k < length xs) × (p (get_or xs k d) ≡ true)) → (b || list_any p xs) ≡ true → (k : ℕ) × (k < length (x ∷ xs)) × (p (get_or (x ∷ xs) k d) ≡ true)
    go true e f g = (0, omega arith, e)
    go false e f g = let r = f g in let l = r.1 in (suc r.0, omega (arith, l), r.2)

-- ---- one table

pub widened-instance : (cs : List Column) (t u : Table) → IsWidened cs t u → (k : ℕ) → instance_at u k ≡ extended (instance_at t k) (map (column_at k) cs)
widened-instance cs t u W k = λ i. row_instance (W.roots k i) (W.prefixes k i) (W.columns k i)

abbrev path_in : Path × Value → Path
path_in x = x.0

-- whether columns differ is told by their paths, and so by any row
differ-at : (t : Table) (cs : List Column) (j k m n : ℕ) → columns_differ (columns_at t j ++ map (column_at k) cs) ≡ columns_differ (columns_at t m ++ map (column_at n) cs)
differ-at t cs j k m n =
    ap (are_distinct same_path)
    (map-append path_in (columns_at t j) (map (column_at k) cs)
    ∙ (λ i. column-paths t.columns.items j m i ++ column-paths cs k n i)
    ∙ sym (map-append path_in (columns_at t m) (map (column_at n) cs)))

widened-table : (cs : List Column) (t u : Table) → IsWidened cs t u → IsTable t → columns_differ (columns_at t 0 ++ map (column_at 0) cs) ≡ true → IsTable u
widened-table cs t u W T h k =
    row-of (prefixes_at t k) (prefixes_at u k) (columns_at t k) (columns_at u k) (ap (map (λ x. x.0)) (W.prefixes k)) (ap columns_differ (W.columns k) ∙ differ-at t cs k k 0 0 ∙ h) (T k)

-- ---- all tables

computed-table : (xs : List Pick) (cs : List Column) (n : ℕ) (t u : Table) → IsComputed xs cs n t u → IsTable t → (list_any (λ x. x.table == n) xs ≡ true → columns_differ (columns_at t 0 ++ map (column_at 0) cs) ≡ true) → IsTable u
computed-table xs cs n t u C T h = go (list_any (λ (x : Pick). x.table == n) xs) refl
  where
    go : (b : Bool) → list_any (λ (x : Pick). x.table == n) xs ≡ b → IsTable u
    go true e = widened-table cs t u (C.picked e) T (h e)
    go false e = subst IsTable (sym (C.other e)) T

computed-all : (xs : List Pick) (cs : List Column) (n : ℕ) (ts us : List Table) → AreComputed xs cs n ts us → All IsTable ts
    → ((m : ℕ) (t : Table) → slice_get ts m ≡ Some t → list_any (λ x. x.table == n + m) xs ≡ true → columns_differ (columns_at t 0 ++ map (column_at 0) cs) ≡ true) → All IsTable us
computed-all xs cs n [] [] C T h = All-nil IsTable
computed-all xs cs n [] (u ∷ us) C T h = absurd C
computed-all xs cs n (t ∷ ts) [] C T h = absurd C
computed-all xs cs n (t ∷ ts) (u ∷ us) C T h =
    let first : n + 0 ≡ n = omega arith in
    All-cons IsTable u us
    (computed-table xs cs n t u C.0 (All-head IsTable t ts T) (λ e. h 0 t refl (subst (λ k. list_any (λ (x : Pick). x.table == k) xs ≡ true) (sym first) e)))
    (computed-all xs cs (suc n) ts us C.1 (All-tail IsTable t ts T) (λ m s e a.
    let next : suc n + m ≡ n + suc m = omega arith in
    h (suc m) s e (subst (λ k. list_any (λ (x : Pick). x.table == k) xs ≡ true) next a)))

-- the table in the place of one
computed-at : (xs : List Pick) (cs : List Column) (n : ℕ) (ts us : List Table) (k : ℕ) (t : Table) → AreComputed xs cs n ts us → slice_get ts k ≡ Some t → (u : Table) × (slice_get us k ≡ Some u) × IsComputed xs cs (n + k) t u
computed-at xs cs n [] us k t C e = absurd (cc)
computed-at xs cs n (s ∷ ts) [] k t C e = absurd C
computed-at xs cs n (s ∷ ts) (u ∷ us) zero t C e =
    let same : s ≡ t = cc in
    let first : n ≡ n + 0 = omega arith in
    (u, refl, subst (λ m. IsComputed xs cs m t u) first (subst (λ r. IsComputed xs cs n r u) same C.0))
computed-at xs cs n (s ∷ ts) (u ∷ us) (suc k) t C e =
    let r = computed-at xs cs (suc n) ts us k t C.1 e in
    let next : suc n + k ≡ n + suc k = omega arith in
    (r.0, r.1, subst (λ m. IsComputed xs cs m t r.0) next r.2)

pub computed-long : (xs : List Pick) (cs : List Column) (n : ℕ) (ts us : List Table) → AreComputed xs cs n ts us → length ts ≡ length us
computed-long xs cs n [] [] C = refl
computed-long xs cs n [] (u ∷ us) C = absurd C
computed-long xs cs n (t ∷ ts) [] C = absurd C
computed-long xs cs n (t ∷ ts) (u ∷ us) C = ap suc (computed-long xs cs (suc n) ts us C.1)

-- what the tables so far come to, whatever those that are left come to
abbrev pub ComputedSoFar : List Pick → List Column → List Table → List Table → List Table → Type 0
ComputedSoFar xs cs all made rest = (us : List Table) → AreComputed xs cs (length made) rest us → AreComputed xs cs 0 all (made ++ us)

-- one table more
pub computed-more : (xs : List Pick) (cs : List Column) (all made made' rest rest' : List Table) (t u : Table) → ComputedSoFar xs cs all made rest → rest ≡ t ∷ rest' → IsComputed xs cs (length made) t u → made' ≡ made ++ u ∷ []
    → ComputedSoFar xs cs all made' rest'
computed-more xs cs all made made' rest rest' t u S e c m us C =
    let long : length made' ≡ suc (length made) = ap length m ∙ length-append made (u ∷ []) ∙ omega arith in
    let here : AreComputed xs cs (length made) rest (u ∷ us) = subst (λ ts. AreComputed xs cs (length made) ts (u ∷ us)) (sym e) (c, subst (λ n. AreComputed xs cs n rest' us) long C) in
    subst (λ ts. AreComputed xs cs 0 all ts) (sym (append_assoc made (u ∷ []) us) ∙ ap (λ ts. ts ++ us) (sym m)) (S (u ∷ us) here)

nothing-left : {X : Type 0} (xs : List X) → length xs ≡ 0 → xs ≡ []
nothing-left [] e = refl
nothing-left (x ∷ xs) e = absurd (omega (arith, e))

pub computed-done : (xs : List Pick) (cs : List Column) (all made rest : List Table) → ComputedSoFar xs cs all made rest → length rest ≡ 0 → AreComputed xs cs 0 all made
computed-done xs cs all made rest S z =
    let e : rest ≡ [] = nothing-left rest z in
    subst (λ ts. AreComputed xs cs 0 all ts) (append-nil made) (S [] (subst (λ ts. AreComputed xs cs (length made) ts []) (sym e) tt))

-- ---- the new columns

-- their values in a row are those of the items
pub new-at : (w : World) (l : List Instance) (items : List of_named.Named) (cs : List Column) (k : ℕ) (d : Instance) → k < length l
    → map listed cs ≡ map (λ x. (x.name ∷ [], values w (expr_of x.expr) l)) items → map (column_at k) cs ≡ new_columns w (map named_of items) (get_or l k d)
new-at w l [] [] k d h e = refl
new-at w l [] (c ∷ cs) k d h e = absurd (cc)
new-at w l (x ∷ xs) [] k d h e = absurd (cc)
new-at w l (x ∷ xs) (c ∷ cs) k d h e =
    let head : listed c ≡ (x.name ∷ [], values w (expr_of x.expr) l) = cc in
    let tail : map listed cs ≡ map (λ (y : of_named.Named). (y.name ∷ [], values w (expr_of y.expr) l)) xs = cc in
    let f = λ (i : Instance). val w i (expr_of x.expr) in
    let value : unwrap_or (slice_get (arc_value c.values).items k) Value.Null ≡ f (get_or l k d) =
    ap (λ (y : Path × List Value). unwrap_or (slice_get y.1 k) Value.Null) head ∙ ap (λ o. unwrap_or o Value.Null) (slice_get-map f l k ∙ ap (option_map f) (slice_get-get_or l k d h)) in
    let path : c.path ≡ x.name ∷ [] = ap (λ (y : Path × List Value). y.0) head in
    λ i. (path i, value i) ∷ new-at w l xs cs k d h tail i

-- where a row of a table is picked, its columns differ from the new ones
pub free-tables : (ts us : List Table) (xs : List Pick) (cs : List Column) (d : Pick) → All IsTable ts → AreComputed xs cs 0 ts us
    → ((k : ℕ) → k < length xs → columns_differ (extended (picked ts (get_or xs k d)) (map (column_at k) cs)).columns ≡ true) → All IsTable us
free-tables ts us xs cs d T C free =
    computed-all xs cs 0 ts us C T (λ m t s a.
    let first : 0 + m ≡ m = omega arith in
    one m t s (subst (λ k. list_any (λ (x : Pick). x.table == k) xs ≡ true) first a))
  where
    one : (m : ℕ) (t : Table) → slice_get ts m ≡ Some t → list_any (λ (x : Pick). x.table == m) xs ≡ true → columns_differ (columns_at t 0 ++ map (column_at 0) cs) ≡ true
    one m t s a =
        let found = any-at (λ (x : Pick). x.table == m) xs d a in
        let k = found.0 in
        let x = get_or xs k d in
        let same : x.table ≡ m = eqb-true x.table m found.2 in
        let own : picked ts x ≡ instance_at t x.row = ap (λ n. picked_in (slice_get ts n) x.row) same ∙ ap (λ o. picked_in o x.row) s in
        differ-at t cs 0 0 x.row k
        ∙ sym (λ i. columns_differ ((own i).columns ++ map (column_at k) cs))
        ∙ free k found.1

-- ---- the whole

pub computed-tables : (w : World) (items : List of_named.Named) (ts us : List Table) (xs : List Pick) (cs : List Column) → All IsTable ts → AreComputed xs cs 0 ts us → all_free w (map named_of items) (all_picked ts xs) ≡ true
    → map listed cs ≡ map (λ x. (x.name ∷ [], values w (expr_of x.expr) (all_picked ts xs))) items → All IsTable us
computed-tables w items ts us xs cs T C free e =
    let ns = map named_of items in
    let d : Pick = record { table = 0; row = 0 } in
    free-tables ts us xs cs d T C (λ k h.
    let x = get_or xs k d in
    let size = length-map xs (picked ts) in
    let long : k < length (all_picked ts xs) = omega (arith, size, h) in
    let at : slice_get (all_picked ts xs) k ≡ Some (picked ts x) = slice_get-map (picked ts) xs k ∙ ap (option_map (picked ts)) (slice_get-get_or xs k d h) in
    let new : map (column_at k) cs ≡ new_columns w ns (picked ts x) = new-at w (all_picked ts xs) items cs k (picked ts x) long e ∙ ap (new_columns w ns) (get_or_from_slice_get (all_picked ts xs) k (picked ts x) (picked ts x) at) in
    ap (λ cs. columns_differ ((picked ts x).columns ++ cs)) new
    ∙ all-at (λ i. columns_differ (extended i (new_columns w ns i)).columns) (all_picked ts xs) k (picked ts x) free at)

-- the row of the pick at a place, with what stands there of the columns
pub pick-widened : (ts us : List Table) (xs : List Pick) (cs : List Column) (n : ℕ) (d : Pick) → AreComputed xs cs 0 ts us → AreInOrder xs → n < length xs → (get_or xs n d).table < length ts
    → picked us (get_or xs n d) ≡ extended (picked ts (get_or xs n d)) (map (column_at n) cs)
pick-widened ts us xs cs n d C O within l =
    let x = get_or xs n d in
    let row : x.row ≡ n = O n d within in
    let t = there ts x.table l in
    let c = computed-at xs cs 0 ts us x.table t.0 C t.1 in
    let first : 0 + x.table ≡ x.table = omega arith in
    let used : list_any (λ (y : Pick). y.table == x.table) xs ≡ true = list_any_at (λ (y : Pick). y.table == x.table) xs n d within (eq-eqb x.table x.table refl) in
    let W : IsWidened cs t.0 c.0 = (c.2).picked (subst (λ k. list_any (λ (y : Pick). y.table == k) xs ≡ true) (sym first) used) in
    let old : picked ts x ≡ instance_at t.0 x.row = ap (λ o. picked_in o x.row) t.1 in
    ap (λ o. picked_in o x.row) c.1
    ∙ widened-instance cs t.0 c.0 W x.row
    ∙ (λ i. extended (sym old i) (map (column_at (row i)) cs))

-- the row of a pick, with the new columns
pick-computed : (w : World) (items : List of_named.Named) (ts us : List Table) (xs : List Pick) (cs : List Column) (n : ℕ) (x : Pick) (rest : List Pick) → AreComputed xs cs 0 ts us → AreInOrder xs → x.table < length ts
    → map listed cs ≡ map (λ x. (x.name ∷ [], values w (expr_of x.expr) (all_picked ts xs))) items → drop n xs ≡ x ∷ rest → picked us x ≡ extended (picked ts x) (new_columns w (map named_of items) (picked ts x))
pick-computed w items ts us xs cs n x rest C O l e D =
    let ns = map named_of items in
    let within = drop-within xs n x rest D in
    let d : Pick = record { table = 0; row = 0 } in
    let size = length-map xs (picked ts) in
    let long : n < length (all_picked ts xs) = omega (arith, size, within) in
    let own : get_or xs n d ≡ x = sym (get-map-id xs n d) ∙ drop-at (λ (y : Pick). y) xs n d x rest D in
    let new : map (column_at n) cs ≡ new_columns w ns (picked ts x) = new-at w (all_picked ts xs) items cs n (picked ts x) long e ∙ ap (new_columns w ns) (drop-at (picked ts) xs n (picked ts x) x rest D) in
    ap (picked us) (sym own)
    ∙ pick-widened ts us xs cs n d C O within (subst (λ (y : Pick). y.table < length ts) (sym own) l)
    ∙ ap (λ y. extended (picked ts y) (map (column_at n) cs)) own
    ∙ ap (extended (picked ts x)) new
  where
    get-map-id : (ys : List Pick) (k : ℕ) (d : Pick) → get_or (map (λ (y : Pick). y) ys) k d ≡ get_or ys k d
    get-map-id [] k d = refl
    get-map-id (y ∷ ys) zero d = refl
    get-map-id (y ∷ ys) (suc k) d = get-map-id ys k d

computed-from : (w : World) (items : List of_named.Named) (ts us : List Table) (all : List Pick) (cs : List Column) (n : ℕ) (xs : List Pick) → AreComputed all cs 0 ts us → AreInOrder all → All (λ x. x.table < length ts) xs
    → map listed cs ≡ map (λ x. (x.name ∷ [], values w (expr_of x.expr) (all_picked ts all))) items → drop n all ≡ xs
    → map (picked us) xs ≡ map (λ i. extended i (new_columns w (map named_of items) i)) (map (picked ts) xs)
computed-from w items ts us all cs n [] C O h e D = refl
computed-from w items ts us all cs n (x ∷ xs) C O h e D =
    let W = λ (y : Pick). y.table < length ts in
    λ i. pick-computed w items ts us all cs n x xs C O (All-head W x xs h) e D i ∷ computed-from w items ts us all cs (suc n) xs C O (All-tail W x xs h) e (drop-next all n x xs D) i

pub computed-picked : (w : World) (items : List of_named.Named) (ts us : List Table) (xs : List Pick) (cs : List Column) → AreComputed xs cs 0 ts us → AreInOrder xs → All (λ x. x.table < length ts) xs
    → map listed cs ≡ map (λ x. (x.name ∷ [], values w (expr_of x.expr) (all_picked ts xs))) items → all_picked us xs ≡ map (λ i. extended i (new_columns w (map named_of items) i)) (all_picked ts xs)
computed-picked w items ts us xs cs C O h e = computed-from w items ts us xs cs 0 xs C O h e refl
