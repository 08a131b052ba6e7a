-- Frames that are copied, and frames one behind the other.
use Rattle.std.proofs.Common.{◌≡◌, ℕ, zero, suc, ◌+◌, ◌<◌, length, refl, sym, subst, ◌∙◌, ap, List, [], ◌∷◌, ◌++◌, map, arith}
use Rattle.std.specs.Prelude.{slice_get}
use Rattle.std.specs.List.{All, AllZip}
use Rattle.std.proofs.lemmas.List.{map-append}
use Rattle.std.proofs.lemmas.List.Elements.{All-append, All-cons, All-head, All-map, All-nil, All-same, All-tail, All-weaker, length_all_zip}
use Rattle.apply_meaning.specs.RowViews.{row_instance, IsRow}
use Rattle.row_frames.specs.declared.tables.Table.{Table}
use Rattle.row_frames.specs.declared.tables.Pick.{Pick}
use Rattle.row_frames.specs.Frames.{IsTable, all_picked, columns_at, instance_at, picked, picked_in, prefixes_at}
use Rattle.row_frames.specs.Joined.{IsShared, shifted}

-- ---- copies

shared-instance : (t u : Table) → IsShared t u → (k : ℕ) → instance_at u k ≡ instance_at t k
shared-instance t u S k = λ i. row_instance (S.roots k i) (S.prefixes k i) (S.columns k i)

shared-table : (t u : Table) → IsShared t u → IsTable t → IsTable u
shared-table t u S T k = subst (λ ps. IsRow ps (columns_at u k)) (sym (S.prefixes k)) (subst (IsRow (prefixes_at t k)) (sym (S.columns k)) (T k))

pub shared-all : (ts us : List Table) → AllZip IsShared ts us → All IsTable ts → All IsTable us
shared-all [] [] z h = All-nil IsTable
shared-all [] (u ∷ us) z h = absurd z
shared-all (t ∷ ts) [] z h = absurd z
shared-all (t ∷ ts) (u ∷ us) z h = All-cons IsTable u us (shared-table t u z.0 (All-head IsTable t ts h)) (shared-all ts us z.1 (All-tail IsTable t ts h))

-- the row that is picked of the table in the place of another
zip-shared : (ts us : List Table) (n k : ℕ) → AllZip IsShared ts us → picked_in (slice_get us n) k ≡ picked_in (slice_get ts n) k
zip-shared [] [] n k z = refl
zip-shared [] (u ∷ us) n k z = absurd z
zip-shared (t ∷ ts) [] n k z = absurd z
zip-shared (t ∷ ts) (u ∷ us) zero k z = shared-instance t u z.0 k
zip-shared (t ∷ ts) (u ∷ us) (suc n) k z = zip-shared ts us n k z.1

each-shared : (ts us : List Table) (xs : List Pick) → AllZip IsShared ts us → all_picked us xs ≡ all_picked ts xs
each-shared ts us [] z = refl
each-shared ts us (x ∷ xs) z = λ i. zip-shared ts us x.table x.row z i ∷ each-shared ts us xs z i

-- the same rows are picked of the tables in the place of others
pub shared-picked : (ts us : List Table) (xs ys : List Pick) → AllZip IsShared ts us → ys ≡ xs → all_picked us ys ≡ all_picked ts xs
shared-picked ts us xs ys z e = ap (all_picked us) e ∙ each-shared ts us xs z

pub shared-within : (ts us : List Table) (xs ys : List Pick) → AllZip IsShared ts us → ys ≡ xs → All (λ x. x.table < length ts) xs → All (λ x. x.table < length us) ys
shared-within ts us xs ys z e h =
    subst (λ n. All (λ (x : Pick). x.table < n) ys) (length_all_zip IsShared ts us z) (All-same (λ (x : Pick). x.table < length ts) ys xs e h)

-- ---- one behind the other

left-get : {X : Type 0} (xs ys : List X) (k : ℕ) → k < length xs → slice_get (xs ++ ys) k ≡ slice_get xs k
left-get [] ys k h = absurd (omega (arith, h))
left-get (x ∷ xs) ys zero h = refl
left-get (x ∷ xs) ys (suc k) h = left-get xs ys k (omega (arith, h))

right-get : {X : Type 0} (xs ys : List X) (k : ℕ) → slice_get (xs ++ ys) (length xs + k) ≡ slice_get ys k
right-get [] ys k = ap (slice_get ys) (let e : 0 + k ≡ k = omega arith in e)
right-get (x ∷ xs) ys k = ap (slice_get (x ∷ (xs ++ ys))) (let e : suc (length xs) + k ≡ suc (length xs + k) = omega arith in e) ∙ right-get xs ys k

left-picked : (ts us : List Table) (xs : List Pick) → All (λ x. x.table < length ts) xs → all_picked (ts ++ us) xs ≡ all_picked ts xs
left-picked ts us [] h = refl
left-picked ts us (x ∷ xs) h =
    λ i. picked_in (left-get ts us x.table (All-head (λ (y : Pick). y.table < length ts) x xs h) i) x.row ∷ left-picked ts us xs (All-tail (λ (y : Pick). y.table < length ts) x xs h) i

right-picked : (ts us : List Table) (xs : List Pick) → all_picked (ts ++ us) (map (shifted (length ts)) xs) ≡ all_picked us xs
right-picked ts us [] = refl
right-picked ts us (x ∷ xs) = λ i. picked_in (right-get ts us x.table i) x.row ∷ right-picked ts us xs i

-- what is picked of both
pub joined-picked : (ts us all : List Table) (xs ys both : List Pick) → all ≡ ts ++ us → both ≡ xs ++ map (shifted (length ts)) ys → All (λ x. x.table < length ts) xs
    → all_picked all both ≡ all_picked ts xs ++ all_picked us ys
joined-picked ts us all xs ys both e f h =
    (λ i. all_picked (e i) (f i))
    ∙ map-append (picked (ts ++ us)) xs (map (shifted (length ts)) ys)
    ∙ (λ i. left-picked ts us xs h i ++ right-picked ts us ys i)

pub joined-within : (n m k : ℕ) (xs ys both : List Pick) → k ≡ n + m → both ≡ xs ++ map (shifted n) ys → All (λ x. x.table < n) xs → All (λ x. x.table < m) ys → All (λ x. x.table < k) both
joined-within n m k xs ys both e f h g =
    All-same W both (xs ++ map (shifted n) ys) f
    (All-append W xs (map (shifted n) ys)
    (All-weaker (λ (x : Pick). x.table < n) W (λ x l. omega (arith, e, l)) xs h)
    (All-map W (shifted n) ys (All-weaker (λ (x : Pick). x.table < m) (λ x. W (shifted n x)) (λ x l. omega (arith, e, l)) ys g)))
  where
    W : Pick → Type 0
    W x = x.table < k

pub joined-tables : (ts us all : List Table) → all ≡ ts ++ us → All IsTable ts → All IsTable us → All IsTable all
joined-tables ts us all e h g = All-same IsTable all (ts ++ us) e (All-append IsTable ts us h g)

-- nothing stands before
pub none-before : {X : Type 0} (xs ys : List X) → length xs ≡ 0 → ys ≡ xs ++ ys
none-before [] ys none = refl
none-before (x ∷ xs) ys none = absurd (omega (arith, none))
