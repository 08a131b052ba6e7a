-- Tables of given columns.
use Rattle.std.proofs.Common.{◌≡◌, ◌∙◌, ℕ, zero, suc, ap, refl, sym, subst, List, [], ◌∷◌, map, get_or, true, None}
use Rattle.std.specs.Prelude.{slice_get, unwrap_or}
use Rattle.std.specs.Arc.{arc_value}
use Rattle.std.specs.List.{All}
use Rattle.std.proofs.lemmas.List.Elements.{All-cons, All-nil, All-same}
use Rattle.std.proofs.lemmas.Simd.{map-map}
use Rattle.edm_values.specs.declared.Value.{Value}
use Rattle.edm_values.specs.Lists.{are_distinct, places}
use Rattle.edm_values.specs.Names.{Path}
use Rattle.edm_values.proofs.EachLemmas.{map-agree}
use Rattle.context_typing.specs.Paths.{same_path}
use Rattle.apply_meaning.specs.RowViews.{IsRow, columns_differ, row_instance}
use Rattle.row_frames.specs.declared.tables.Column.{Column}
use Rattle.row_frames.specs.declared.tables.Table.{Table}
use Rattle.row_frames.specs.declared.tables.Pick.{Pick}
use Rattle.row_frames.specs.Columned.{row_across}
use Rattle.row_frames.specs.Frames.{IsTable, all_picked, column_at, columns_at, first_pick, instance_at, listed, picked, prefixes_at, root_at}
use Rattle.row_frames.proofs.GatherLemmas.{column-paths}

read-or : {X : Type 0} (l : List X) (k : ℕ) (d : X) → unwrap_or (slice_get l k) d ≡ get_or l k d
read-or [] k d = refl
read-or (x ∷ l) zero d = refl
read-or (x ∷ l) (suc k) d = read-or l k d

-- the columns of a row are what stands at its place of each list
pub across : (cs : List Column) (k : ℕ) → map (column_at k) cs ≡ (row_across (map listed cs) k).columns
across [] k = refl
across (c ∷ cs) k = λ i. (c.path, read-or (arc_value c.values).items k Value.Null i) ∷ across cs k i

-- a table without entities and prefixes, and with these columns
pub record HasColumns (t : Table) (cs : List Column) : Type 0 where
  pub roots : (k : ℕ) → root_at t.roots k ≡ None
  pub prefixes : (k : ℕ) → prefixes_at t k ≡ []
  pub columns : t.columns.items ≡ cs

module _ (t : Table) (cs : List Column) (H : HasColumns t cs) (g : List (Path × List Value)) (e : map listed cs ≡ g) where
  row-at : (k : ℕ) → instance_at t k ≡ row_across g k
  row-at k =
      (λ i. row_instance (H.roots k i) (H.prefixes k i) (map (column_at k) (H.columns i)))
      ∙ ap (row_instance None []) (across cs k)
      ∙ ap (λ g. row_across g k) e

  pub given-rows : (ts : List Table) → ts ≡ t ∷ [] → (k : ℕ) → picked ts (first_pick k) ≡ row_across g k
  given-rows ts one k = ap (λ ts. picked ts (first_pick k)) one ∙ row-at k

  differ-at : columns_differ (row_across g 0).columns ≡ true → (k : ℕ) → columns_differ (columns_at t k) ≡ true
  differ-at d k =
      ap (λ cs. columns_differ (map (column_at k) cs)) H.columns
      ∙ ap (are_distinct same_path) (column-paths cs k 0)
      ∙ ap columns_differ (across cs 0)
      ∙ ap (λ g. columns_differ (row_across g 0).columns) e
      ∙ d

  given-table : columns_differ (row_across g 0).columns ≡ true → IsTable t
  given-table d k = subst (λ ps. IsRow ps (columns_at t k)) (sym (H.prefixes k)) (record { paths = refl; prefixes = refl; columns = differ-at d k })

  pub given-tables : columns_differ (row_across g 0).columns ≡ true → (ts : List Table) → ts ≡ t ∷ [] → All IsTable ts
  given-tables d ts one = All-same IsTable ts (t ∷ []) one (All-cons IsTable t [] (given-table d) (All-nil IsTable))

-- the first rows of the table, in turn
pub given-picked : (ts : List Table) (xs : List Pick) (n : ℕ) (g : List (Path × List Value)) → xs ≡ map first_pick (places n) → ((k : ℕ) → picked ts (first_pick k) ≡ row_across g k) → all_picked ts xs ≡ map (row_across g) (places n)
given-picked ts xs n g e h =
    ap (all_picked ts) e
    ∙ map-map (picked ts) first_pick (places n)
    ∙ map-agree (λ k. picked ts (first_pick k)) (row_across g) (places n) h
