-- What readers read in the rows that are picked.
use Rattle.std.proofs.Common.{◌≡◌, ◌∙◌, ◌<◌, IsTrue, List, [], ◌∷◌, Some, ap, arith, get_or, length, map, refl, subst, sym}
use Rattle.std.specs.List.{All}
use Rattle.std.proofs.lemmas.List.{get_or-map, get_or_default, length-map}
use Rattle.std.proofs.lemmas.List.Elements.{All-tail}
use Rattle.std.proofs.lemmas.Option.{get_or_from_slice_get, slice_get-get_or}
use Rattle.edm_values.proofs.TopPlaces.{element-there}
use Rattle.edm_data.specs.Worlds.{World}
use Rattle.apply_ast.specs.Trees.{Expr}
use Rattle.apply_meaning.specs.Instances.{val}
use Rattle.apply_meaning.specs.Meaning.{values}
use Rattle.apply_meaning.specs.RowViews.{is_of, IsRow}
use Rattle.apply_meaning.specs.Running.{all_of}
use Rattle.row_frames.specs.declared.tables.Table.{Table}
use Rattle.row_frames.specs.declared.tables.Pick.{Pick}
use Rattle.row_frames.specs.declared.readers.TableReader.{TableReader}
use Rattle.row_frames.specs.Frames.{all_picked, bound_value, columns_at, instance_at, picked, prefixes_at, read_at, read_in, CanRead, IsReadable, IsReader, IsReaderOf, IsTable}
use Rattle.row_frames.proofs.FrameLemmas.{own-reader, picked-of}

-- rows that are picked are of tables that are read
pub all-readable : (w : World) (e : Expr) (ts : List Table) (rs : List TableReader) (xs : List Pick) → IsReader w ts e rs → All IsTable ts → All (λ x. x.table < length ts) xs → IsTrue (all_of w (all_picked ts xs)) → All (IsReadable rs) xs
all-readable w e ts rs xs R T W O = λ k d lt.
    let x = get_or xs k d in
    let table = λ (r : TableReader). r.table.now in
    let size : length ts ≡ length rs = sym (ap length R.tables) ∙ length-map rs table in
    let inside : x.table < length rs = subst (λ n. x.table < n) size (W k d lt) in
    let of : IsTrue (is_of w (picked ts x)) = picked-of w ts xs k d lt O in
    record {
      within = inside;
      read = λ q.
          let r = get_or rs x.table q in
          let own = own-reader table (IsReaderOf w e) ts rs x r R.tables R.bound (W k d lt) (get_or_default rs x.table q r inside) in
          let at : get_or ts x.table r.table.now ≡ r.table.now = ap (λ l. get_or l x.table r.table.now) (sym R.tables) ∙ get_or-map table rs x.table q r.table.now inside in
          record {
            row = subst (λ (t : Table). IsRow (prefixes_at t x.row) (columns_at t x.row)) at (T x.table r.table.now (W k d lt) x.row);
            of = subst (λ v. IsTrue (is_of v (instance_at r.table.now x.row))) (sym own.1.world) (subst (λ i. IsTrue (is_of w i)) own.0 of);
          };
    }

-- what is read of one is the value of the expression
read-one : (w : World) (e : Expr) (ts : List Table) (rs : List TableReader) (x : Pick) → IsReader w ts e rs → x.table < length ts → read_at rs x ≡ val w (picked ts x) e
read-one w e ts rs x R lt =
    let table = λ (r : TableReader). r.table.now in
    let size : length ts ≡ length rs = sym (ap length R.tables) ∙ length-map rs table in
    let there = element-there rs x.table (subst (λ n. x.table < n) size lt) in
    let r = there.0 in
    let own = own-reader table (IsReaderOf w e) ts rs x r R.tables R.bound lt (sym (get_or_from_slice_get rs x.table r r there.1)) in
    ap (λ o. read_in o x.row) there.1
    ∙ ap (λ v. bound_value v r.table.now x.row r.bound) own.1.world
    ∙ sym (own.1.values x.row)
    ∙ ap (λ i. val w i e) (sym own.0)

pub all-read : (w : World) (e : Expr) (ts : List Table) (rs : List TableReader) (xs : List Pick) → IsReader w ts e rs → All (λ x. x.table < length ts) xs → map (read_at rs) xs ≡ values w e (all_picked ts xs)
all-read w e ts rs [] R W = refl
all-read w e ts rs (x ∷ xs) R W = λ i. read-one w e ts rs x R (W 0 x (omega arith)) i ∷ all-read w e ts rs xs R (All-tail (λ (y : Pick). y.table < length ts) x xs W) i

-- the row that is picked, in the table of its reader
pub row-read : (rs : List TableReader) (x : Pick) (r : TableReader) → IsReadable rs x → r ≡ get_or rs x.table r → CanRead r x.row × (bound_value r.store.now r.table.now x.row r.bound ≡ read_at rs x)
row-read rs x r H e = (
  subst (λ (q : TableReader). CanRead q x.row) (sym e) (H.read r),
  ap (λ o. read_in o x.row) (ap Some e ∙ sym (slice_get-get_or rs x.table r H.within)),
)
