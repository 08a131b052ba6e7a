-- Instances of a frame that are read where they stand.
use Rattle.std.proofs.Common.{◌≡◌, ℕ, List, [], ◌∷◌, Option, Some, map, drop, take, refl, sym, ◌∙◌, ap}
use Rattle.std.specs.Prelude.{slice_get}
use Rattle.std.proofs.lemmas.List.{drop-map, take-map}
use Rattle.edm_values.specs.Names.{Path}
use Rattle.edm_data.specs.Worlds.{Entity}
use Rattle.apply_meaning.specs.RowViews.{with_root}
use Rattle.row_frames.specs.declared.tables.Roots.{Roots}
use Rattle.row_frames.specs.declared.tables.Roots.TheVariants as roots
use Rattle.row_frames.specs.declared.tables.Column.{Column}
use Rattle.row_frames.specs.declared.tables.Table.{Table}
use Rattle.row_frames.specs.declared.tables.Pick.{Pick}
use Rattle.row_frames.specs.Frames.{all_picked, column_at, picked, picked_in, prefixes_at, root_at}
use Rattle.row_frames.specs.Shown.{column_path, prefix_set}

abbrev Bound : Type 0
Bound = Path × Option Entity

-- ---- rows of one table

pub columns-alike : (a b : ℕ) (cs : List Column) → map column_path (map (column_at a) cs) ≡ map column_path (map (column_at b) cs)
columns-alike a b [] = refl
columns-alike a b (c ∷ cs) = ap (λ ps. c.path ∷ ps) (columns-alike a b cs)

-- entities of the same sets at the other prefixes, and so at all of them
pub sets-alike : (r : Roots) (a b : ℕ) (xs ys : List Bound) → map prefix_set xs ≡ map prefix_set ys → map prefix_set (with_root (root_at r a) xs) ≡ map prefix_set (with_root (root_at r b) ys)
sets-alike roots.Without a b xs ys h = h
sets-alike (roots.Whole s) a b xs ys h = ap (λ zs. ([], Some s) ∷ zs) h
sets-alike (roots.Listed s places) a b xs ys h = ap (λ zs. ([], Some s) ∷ zs) h

-- what two rows that are picked have in common, where they are of one table
pub picked-columns : (ts : List Table) (x y : Pick) (t : Table) → x.table ≡ y.table → slice_get ts x.table ≡ Some t → map column_path (picked ts x).columns ≡ map column_path (picked ts y).columns
picked-columns ts x y t e h =
    ap (λ o. map column_path (picked_in o x.row).columns) h
    ∙ columns-alike x.row y.row t.columns.items
    ∙ sym (ap (λ o. map column_path (picked_in o y.row).columns) (ap (slice_get ts) (sym e) ∙ h))

pub picked-prefixes : (ts : List Table) (x y : Pick) (t : Table) → x.table ≡ y.table → slice_get ts x.table ≡ Some t → map prefix_set (prefixes_at t x.row) ≡ map prefix_set (prefixes_at t y.row)
    → map prefix_set (picked ts x).prefixes ≡ map prefix_set (picked ts y).prefixes
picked-prefixes ts x y t e h s =
    ap (λ o. map prefix_set (picked_in o x.row).prefixes) h
    ∙ sets-alike t.roots x.row y.row (prefixes_at t x.row) (prefixes_at t y.row) s
    ∙ sym (ap (λ o. map prefix_set (picked_in o y.row).prefixes) (ap (slice_get ts) (sym e) ∙ h))

-- ---- parts

-- the rows that are picked from one place to before another
pub part-picked : (ts : List Table) (n m : ℕ) (xs : List Pick) → all_picked ts (take n (drop m xs)) ≡ take n (drop m (all_picked ts xs))
part-picked ts n m xs = sym (take-map (picked ts) n (drop m xs)) ∙ ap (take n) (sym (drop-map (picked ts) m xs))
