-- The places of the entities at the empty prefix of rows of one table.
use Rattle.std.proofs.Common.{◌≡◌, ◌∙◌, ℕ, ◌<◌, refl, sym, ap, List, [], ◌∷◌, get_or, length, map, arith, Some}
use Rattle.std.specs.Prelude.{option_map}
use Rattle.std.specs.List.{All}
use Rattle.std.proofs.lemmas.List.Elements.{All-head, All-tail}
use Rattle.std.proofs.lemmas.Option.{slice_get-get_or}
use Rattle.edm_data.specs.Worlds.{Entity, entity_at}
use Rattle.apply_meaning.specs.Instances.{root_of}
use Rattle.apply_meaning.specs.RowViews.{IsRow}
use Rattle.row_frames.specs.declared.tables.Pick.{Pick}
use Rattle.row_frames.specs.declared.tables.Table.{Table}
use Rattle.row_frames.specs.Frames.{IsTable, all_picked, columns_at, instance_at, picked, picked_in, place_in, prefixes_at, root_at}
use Rattle.row_frames.proofs.TableLemmas.{root-of}

-- a row that is picked of a table that is alone
picked-alone : (ts : List Table) (t : Table) (x : Pick) → length ts ≡ 1 → t ≡ get_or ts 0 t → x.table < length ts → picked ts x ≡ instance_at t x.row
picked-alone ts t x one is less =
    let first : x.table ≡ 0 = omega (arith, one, less) in
    ap (λ o. picked_in o x.row) (slice_get-get_or ts x.table t less ∙ ap (λ j. Some (get_or ts j t)) first ∙ ap (λ u. Some u) (sym is))

-- the place of the entity of a row
place-of : (t : Table) (s k : ℕ) → IsRow (prefixes_at t k) (columns_at t k) → root_at t.roots k ≡ Some (entity_at s (place_in t.roots k)) → option_map (λ (e : Entity). e.at) (root_of (instance_at t k)) ≡ Some (place_in t.roots k)
place-of t s k row root = ap (option_map (λ (e : Entity). e.at)) (sym (root-of t k row.paths) ∙ root)

-- the places of the entities of all rows that are picked
pub places-picked : (ts : List Table) (t : Table) (s : ℕ) (xs : List Pick) → IsTable t → length ts ≡ 1 → t ≡ get_or ts 0 t → ((k : ℕ) → root_at t.roots k ≡ Some (entity_at s (place_in t.roots k))) → All (λ x. x.table < length ts) xs
    → map (λ i. option_map (λ e. e.at) (root_of i)) (all_picked ts xs) ≡ map (λ k. Some k) (map (λ x. place_in t.roots x.row) xs)
places-picked ts t s [] T one is root within = refl
places-picked ts t s (x ∷ xs) T one is root within =
    let here = ap (λ i. option_map (λ (e : Entity). e.at) (root_of i)) (picked-alone ts t x one is (All-head (λ (y : Pick). y.table < length ts) x xs within)) ∙ place-of t s x.row (T x.row) (root x.row) in
    λ j. here j ∷ places-picked ts t s xs T one is root (All-tail (λ (y : Pick). y.table < length ts) x xs within) j
