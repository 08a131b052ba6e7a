-- Tables that are made of rows of other tables, and picks in order.
use Rattle.std.proofs.Common.{◌≡◌, ◌∙◌, ℕ, zero, suc, ◌+◌, ◌<◌, length, sym, refl, subst, ap, List, [], ◌∷◌, ◌++◌, map, get_or, drop, take, add-zero, Option, Some, None, true, arith}
use Rattle.std.specs.Prelude.{slice_get, option_map, unwrap_or}
use Rattle.std.specs.Arc.{arc_value}
use Rattle.std.specs.List.{All, AllZip, list_all}
use Rattle.std.proofs.lemmas.List.{length-take-le, take_more}
use Rattle.std.proofs.lemmas.List.Elements.{All-cons, All-nil, All-head, All-same, All-tail, AllZip-push, length_all_zip}
use Rattle.std.proofs.lemmas.List.Folds.{list_all-map}
use Rattle.std.proofs.lemmas.Option.{slice_get-get_or, slice_get-map}
use Rattle.edm_values.specs.declared.Value.{Value}
use Rattle.edm_values.specs.Lists.{is_nonempty, are_distinct}
use Rattle.edm_values.specs.Names.{Path}
use Rattle.edm_data.specs.Worlds.{Entity, entity_at}
use Rattle.context_typing.specs.Paths.{same_path}
use Rattle.apply_meaning.specs.RowViews.{IsRow, columns_differ, row_instance}
use Rattle.row_frames.specs.declared.tables.Prefix.{Prefix}
use Rattle.row_frames.specs.declared.tables.Column.{Column}
use Rattle.row_frames.specs.declared.tables.Table.{Table}
use Rattle.row_frames.specs.declared.tables.Pick.{Pick}
use Rattle.row_frames.specs.Frames.{IsTable, all_picked, bound_place, column_at, columns_at, instance_at, picked, picked_in, prefix_at, prefixes_at}
use Rattle.row_frames.specs.Gathered.{AreInOrder, at_row, IsColumnOf, IsGathered, IsPartOf, in_order}

-- ---- lists

-- an element of a list is there
pub there : {X : Type 0} (xs : List X) (k : ℕ) → k < length xs → (x : X) × (slice_get xs k ≡ Some x)
there [] k h = absurd (omega (arith, h))
there (x ∷ xs) zero h = (x, refl)
there (x ∷ xs) (suc k) h = there xs k (omega (arith, h))

-- what stands at the place of an element
pub drop-at : {X Y : Type 0} (f : X → Y) (l : List X) (n : ℕ) (d : Y) (x : X) (rest : List X) → drop n l ≡ x ∷ rest → get_or (map f l) n d ≡ f x
drop-at f [] zero d x rest e = cc
drop-at f [] (suc n) d x rest e = cc
drop-at f (y ∷ l) zero d x rest e = let s : y ≡ x = cc in ap f s
drop-at f (y ∷ l) (suc n) d x rest e = drop-at f l n d x rest e

pub drop-next : {X : Type 0} (l : List X) (n : ℕ) (x : X) (rest : List X) → drop n l ≡ x ∷ rest → drop (suc n) l ≡ rest
drop-next [] zero x rest e = cc
drop-next [] (suc n) x rest e = cc
drop-next (y ∷ l) zero x rest e = let s : l ≡ rest = cc in s
drop-next (y ∷ l) (suc n) x rest e = drop-next l n x rest e

pub drop-within : {X : Type 0} (l : List X) (n : ℕ) (x : X) (rest : List X) → drop n l ≡ x ∷ rest → n < length l
drop-within [] zero x rest e = cc
drop-within [] (suc n) x rest e = cc
drop-within (y ∷ l) zero x rest e = omega arith
drop-within (y ∷ l) (suc n) x rest e = let h = drop-within l n x rest e in omega (arith, h)

-- one element more
pub zip-more : {X : Type 0} (R : X → X → Type 0) (xs made made' : List X) (i : ℕ) (x y : X) → AllZip R (take i xs) made → i < length xs → x ≡ get_or xs i x → R x y → made' ≡ made ++ y ∷ [] → AllZip R (take (i + 1) xs) made'
zip-more R xs made made' i x y z l e r m =
    subst (AllZip R (take (i + 1) xs)) (sym m)
    (subst (λ ys. AllZip R ys (made ++ y ∷ [])) (ap (λ a. take i xs ++ a ∷ []) e ∙ sym (take_more xs i x l)) (AllZip-push R (take i xs) made x y z r))

-- ---- rows of the same paths

-- what every row meets is told by its paths
pub row-of : (ps qs : List (Path × Option Entity)) (cs ds : List (Path × Value)) → map (λ x. x.0) qs ≡ map (λ x. x.0) ps → columns_differ ds ≡ true → IsRow ps cs → IsRow qs ds
row-of ps qs cs ds e h R = record {
  paths = sym (list_all-map is_nonempty (λ (x : Path × Option Entity). x.0) qs) ∙ ap (list_all is_nonempty) e ∙ list_all-map is_nonempty (λ (x : Path × Option Entity). x.0) ps ∙ R.paths;
  prefixes = ap (are_distinct same_path) e ∙ R.prefixes;
  columns = h;
}

-- the paths of columns are those of each row
pub column-paths : (cs : List Column) (k j : ℕ) → map (λ x. x.0) (map (column_at k) cs) ≡ map (λ x. x.0) (map (column_at j) cs)
column-paths [] k j = refl
column-paths (c ∷ cs) k j = ap (λ ps. c.path ∷ ps) (column-paths cs k j)

-- ---- gathered tables

prefix-paths : (rows : List ℕ) (ps qs : List Prefix) → AllZip (IsPartOf rows) ps qs → (k j : ℕ) → map (λ x. x.0) (map (prefix_at k) qs) ≡ map (λ x. x.0) (map (prefix_at j) ps)
prefix-paths rows [] [] h k j = refl
prefix-paths rows [] (q ∷ qs) h k j = absurd h
prefix-paths rows (p ∷ ps) [] h k j = absurd h
prefix-paths rows (p ∷ ps) (q ∷ qs) h k j = λ i. (h.0).path i ∷ prefix-paths rows ps qs h.1 k j i

gathered-paths : (rows : List ℕ) (cs es : List Column) → AllZip (IsColumnOf rows) cs es → (k j : ℕ) → map (λ x. x.0) (map (column_at k) es) ≡ map (λ x. x.0) (map (column_at j) cs)
gathered-paths rows [] [] h k j = refl
gathered-paths rows [] (q ∷ qs) h k j = absurd h
gathered-paths rows (p ∷ ps) [] h k j = absurd h
gathered-paths rows (p ∷ ps) (q ∷ qs) h k j = λ i. (h.0).path i ∷ gathered-paths rows ps qs h.1 k j i

pub gathered-table : (rows : List ℕ) (t u : Table) → IsGathered rows t u → IsTable t → IsTable u
gathered-table rows t u G T k =
    row-of (prefixes_at t 0) (prefixes_at u k) (columns_at t 0) (columns_at u k)
    (prefix-paths rows t.prefixes.items u.prefixes.items G.prefixes k 0)
    (ap (are_distinct same_path) (gathered-paths rows t.columns.items u.columns.items G.columns k 0) ∙ (T 0).columns)
    (T 0)

-- what a list of images has at the place of one
image-at : {X : Type 0} (f : ℕ → X) (rows : List ℕ) (xs : List X) (k d : ℕ) (e : X) → xs ≡ map f rows → k < length rows → unwrap_or (slice_get xs k) e ≡ f (get_or rows k d)
image-at f rows xs k d e h l =
    ap (λ ys. unwrap_or (slice_get ys k) e) h ∙ ap (λ o. unwrap_or o e) (slice_get-map f rows k ∙ ap (option_map f) (slice_get-get_or rows k d l))

prefixes-of : (rows : List ℕ) (ps qs : List Prefix) → AllZip (IsPartOf rows) ps qs → (k d : ℕ) → k < length rows → map (prefix_at k) qs ≡ map (prefix_at (get_or rows k d)) ps
prefixes-of rows [] [] h k d l = refl
prefixes-of rows [] (q ∷ qs) h k d l = absurd h
prefixes-of rows (p ∷ ps) [] h k d l = absurd h
prefixes-of rows (p ∷ ps) (q ∷ qs) h k d l =
    let at = image-at (λ r. bound_place r p) rows (arc_value q.places).items k d None (h.0).places l in
    λ i. ((h.0).path i, option_map (entity_at ((h.0).set i)) (at i)) ∷ prefixes-of rows ps qs h.1 k d l i

columns-of : (rows : List ℕ) (cs es : List Column) → AllZip (IsColumnOf rows) cs es → (k d : ℕ) → k < length rows → map (column_at k) es ≡ map (column_at (get_or rows k d)) cs
columns-of rows [] [] h k d l = refl
columns-of rows [] (q ∷ qs) h k d l = absurd h
columns-of rows (p ∷ ps) [] h k d l = absurd h
columns-of rows (p ∷ ps) (q ∷ qs) h k d l =
    λ i. ((h.0).path i, image-at (λ r. (column_at r p).1) rows (arc_value q.values).items k d Value.Null (h.0).values l i) ∷ columns-of rows ps qs h.1 k d l i

pub gathered-instance : (rows : List ℕ) (t u : Table) → IsGathered rows t u → (k d : ℕ) → k < length rows → instance_at u k ≡ instance_at t (get_or rows k d)
gathered-instance rows t u G k d l =
    λ i. row_instance (G.roots k d l i) (prefixes-of rows t.prefixes.items u.prefixes.items G.prefixes k d l i) (columns-of rows t.columns.items u.columns.items G.columns k d l i)

pub gathered-all : (rows : List ℕ) (ts us : List Table) → AllZip (IsGathered rows) ts us → All IsTable ts → All IsTable us
gathered-all rows [] [] z h = All-nil IsTable
gathered-all rows [] (u ∷ us) z h = absurd z
gathered-all rows (t ∷ ts) [] z h = absurd z
gathered-all rows (t ∷ ts) (u ∷ us) z h =
    All-cons IsTable u us (gathered-table rows t u z.0 (All-head IsTable t ts h)) (gathered-all rows ts us z.1 (All-tail IsTable t ts h))

-- ---- picks in order

-- the row that is picked of the table in the place of another
zip-picked : (rows : List ℕ) (ts us : List Table) (n k d : ℕ) → AllZip (IsGathered rows) ts us → n < length ts → k < length rows → picked_in (slice_get us n) k ≡ picked_in (slice_get ts n) (get_or rows k d)
zip-picked rows [] us n k d z h l = absurd (omega (arith, h))
zip-picked rows (t ∷ ts) [] n k d z h l = absurd z
zip-picked rows (t ∷ ts) (u ∷ us) zero k d z h l = gathered-instance rows t u z.0 k d l
zip-picked rows (t ∷ ts) (u ∷ us) (suc n) k d z h l = zip-picked rows ts us n k d z.1 (omega (arith, h)) l

ordered-from : (ts us : List Table) (all xs : List Pick) (n : ℕ) → AllZip (IsGathered (map (λ x. x.row) all)) ts us → All (λ x. x.table < length ts) xs → drop n all ≡ xs → map (picked us) (in_order n xs) ≡ map (picked ts) xs
ordered-from ts us all [] n z h e = refl
ordered-from ts us all (x ∷ xs) n z h e =
    let W = λ (y : Pick). y.table < length ts in
    let rows = map (λ (y : Pick). y.row) all in
    let m = length-rows all in
    let here = drop-within all n x xs e in
    λ i. (zip-picked rows ts us x.table n 0 z (All-head W x xs h) (omega (arith, m, here)) ∙ ap (picked_in (slice_get ts x.table)) (drop-at (λ (y : Pick). y.row) all n 0 x xs e)) i
    ∷ ordered-from ts us all xs (suc n) z (All-tail W x xs h) (drop-next all n x xs e) i
  where
    length-rows : (ys : List Pick) → length (map (λ (y : Pick). y.row) ys) ≡ length ys
    length-rows [] = refl
    length-rows (y ∷ ys) = ap suc (length-rows ys)

pub ordered-picked : (ts us : List Table) (xs ys : List Pick) (rows : List ℕ) → rows ≡ map (λ x. x.row) xs → ys ≡ in_order 0 xs → AllZip (IsGathered rows) ts us → All (λ x. x.table < length ts) xs → all_picked us ys ≡ all_picked ts xs
ordered-picked ts us xs ys rows r e z h =
    ap (all_picked us) e ∙ ordered-from ts us xs xs 0 (subst (λ rs. AllZip (IsGathered rs) ts us) r z) h refl

pub ordered-within : (m n : ℕ) (xs : List Pick) → All (λ x. x.table < m) xs → All (λ x. x.table < m) (in_order n xs)
ordered-within m n [] h = All-nil (λ (x : Pick). x.table < m)
ordered-within m n (x ∷ xs) h =
    let W = λ (y : Pick). y.table < m in
    All-cons W (at_row n x) (in_order (suc n) xs) (All-head W x xs h) (ordered-within m (suc n) xs (All-tail W x xs h))

row-at : (n : ℕ) (xs : List Pick) (k : ℕ) (d : Pick) → k < length (in_order n xs) → (get_or (in_order n xs) k d).row ≡ n + k
row-at n [] k d h = absurd (omega (arith, h))
row-at n (x ∷ xs) zero d h = sym (add-zero n)
row-at n (x ∷ xs) (suc k) d h = let e = row-at (suc n) xs k d (omega (arith, h)) in omega (arith, e)

pub ordered-rows : (xs ys : List Pick) → ys ≡ in_order 0 xs → AreInOrder ys
ordered-rows xs ys e k d h =
    let r = row-at 0 xs k d (subst (λ l. k < length l) e h) in
    ap (λ (l : List Pick). (get_or l k d).row) e ∙ (omega (arith, r))

pub zip-long : (rows : List ℕ) (ts us : List Table) → AllZip (IsGathered rows) ts us → length ts ≡ length us
zip-long rows ts us z = length_all_zip (IsGathered rows) ts us z

-- one pick more
pub order-more : (n : ℕ) (xs : List Pick) (x : Pick) → in_order n (xs ++ x ∷ []) ≡ in_order n xs ++ at_row (n + length xs) x ∷ []
order-more n [] x = ap (λ k. at_row k x ∷ []) (sym (add-zero n))
order-more n (y ∷ ys) x =
    ap (λ l. at_row n y ∷ l) (order-more (suc n) ys x ∙ ap (λ k. in_order (suc n) ys ++ at_row k x ∷ []) (let e : suc n + length ys ≡ n + suc (length ys) = omega arith in e))

pub order-long : (n : ℕ) (xs : List Pick) → length (in_order n xs) ≡ length xs
order-long n [] = refl
order-long n (x ∷ xs) = ap suc (order-long (suc n) xs)

-- one pick more, of the row of its place
pub picks-more : (xs made made' : List Pick) (i : ℕ) (d y : Pick) → made ≡ in_order 0 (take i xs) → i < length xs → y ≡ at_row i (get_or xs i d) → made' ≡ made ++ y ∷ [] → made' ≡ in_order 0 (take (i + 1) xs)
picks-more xs made made' i d y inv l h m =
    let x = get_or xs i d in
    let long : length (take i xs) ≡ i = length-take-le i xs (omega (arith, l)) in
    let place : 0 + length (take i xs) ≡ i = omega (arith, long) in
    m
    ∙ (λ k. inv k ++ h k ∷ [])
    ∙ ap (λ n. in_order 0 (take i xs) ++ at_row n x ∷ []) (sym place)
    ∙ sym (order-more 0 (take i xs) x)
    ∙ ap (in_order 0) (sym (take_more xs i d l))

-- the picks in order are within the tables that are made
pub ordered-inside : (ts us : List Table) (xs ys : List Pick) (rows : List ℕ) → ys ≡ in_order 0 xs → AllZip (IsGathered rows) ts us → All (λ x. x.table < length ts) xs → All (λ x. x.table < length us) ys
ordered-inside ts us xs ys rows e z h =
    subst (λ n. All (λ (x : Pick). x.table < n) ys) (zip-long rows ts us z) (All-same (λ (x : Pick). x.table < length ts) ys (in_order 0 xs) e (ordered-within (length ts) 0 xs h))
