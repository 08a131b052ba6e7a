-- Tables that are made of other tables.
use Rattle.std.specs.Prelude.{◌≡◌, ℕ, suc, ◌<◌, ◌==◌, ◌++◌, List, [], ◌∷◌, true, false, get_or, length, map}
use Rattle.std.specs.Arc.{arc_value}
use Rattle.std.specs.List.{AllZip, list_any}
use Rattle.row_frames.specs.declared.tables.Prefix.{Prefix}
use Rattle.row_frames.specs.declared.tables.Column.{Column}
use Rattle.row_frames.specs.declared.tables.Table.{Table}
use Rattle.row_frames.specs.declared.tables.Pick.{Pick}
use Rattle.row_frames.specs.Frames.{bound_place, column_at, columns_at, prefix_at, prefixes_at, root_at}

-- the second table has these columns behind those of the first
pub record IsWidened (cs : List Column) (t u : Table) : Type 0 where
  pub roots : (k : ℕ) → root_at u.roots k ≡ root_at t.roots k
  pub prefixes : (k : ℕ) → prefixes_at u k ≡ prefixes_at t k
  pub columns : (k : ℕ) → columns_at u k ≡ columns_at t k ++ map (column_at k) cs

-- the second prefix has what stands in these rows at the first
pub record IsPartOf (rows : List ℕ) (p q : Prefix) : Type 0 where
  pub path : q.path ≡ p.path
  pub set : q.set ≡ p.set
  pub places : (arc_value q.places).items ≡ map (λ r. bound_place r p) rows

-- the second column has the values of these rows in the first
pub record IsColumnOf (rows : List ℕ) (c e : Column) : Type 0 where
  pub path : e.path ≡ c.path
  pub values : (arc_value e.values).items ≡ map (λ r. (column_at r c).1) rows

-- the rows of the second table are these rows of the first
pub record IsGathered (rows : List ℕ) (t u : Table) : Type 0 where
  pub roots : (k d : ℕ) → k < length rows → root_at u.roots k ≡ root_at t.roots (get_or rows k d)
  pub prefixes : AllZip (IsPartOf rows) t.prefixes.items u.prefixes.items
  pub columns : AllZip (IsColumnOf rows) t.columns.items u.columns.items

-- a row of table n is picked, and the second table has the columns behind those of the first, or none is, and it is the first
pub record IsComputed (xs : List Pick) (cs : List Column) (n : ℕ) (t u : Table) : Type 0 where
  pub picked : list_any (λ x. x.table == n) xs ≡ true → IsWidened cs t u
  pub other : list_any (λ x. x.table == n) xs ≡ false → u ≡ t

-- the same of table n and those behind it
abbrev pub AreComputed : List Pick → List Column → ℕ → List Table → List Table → Type 0
AreComputed xs cs n [] [] = Unit {0}
AreComputed xs cs n [] (u ∷ us) = ⊥
AreComputed xs cs n (t ∷ ts) [] = ⊥
AreComputed xs cs n (t ∷ ts) (u ∷ us) = IsComputed xs cs n t u × AreComputed xs cs (suc n) ts us

-- row k belongs to pick k
abbrev pub AreInOrder : List Pick → Type 0
AreInOrder xs = (k : ℕ) (d : Pick) → k < length xs → (get_or xs k d).row ≡ k

-- row k of the table of a pick
abbrev pub at_row : ℕ → Pick → Pick
at_row k x = record { table = x.table; row = k }

-- the picks from place n on, each of the row of its place
abbrev pub in_order : ℕ → List Pick → List Pick
in_order n [] = []
in_order n (x ∷ xs) = at_row n x ∷ in_order (suc n) xs
