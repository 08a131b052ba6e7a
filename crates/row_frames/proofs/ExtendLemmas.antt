-- Frames with given columns behind their own.
use Rattle.std.proofs.Common.{◌≡◌, ◌∙◌, ℕ, ◌<◌, length, sym, ap, List, [], map, get_or, arith, IsTrue}
use Rattle.std.specs.List.{All}
use Rattle.std.proofs.lemmas.List.{get_or-map, length-map}
use Rattle.std.proofs.lemmas.List.Elements.{All-get_or}
use Rattle.std.proofs.lemmas.Simd.{map-map}
use Rattle.edm_values.specs.declared.Value.{Value}
use Rattle.edm_values.specs.Lists.{places}
use Rattle.edm_values.specs.Names.{Path}
use Rattle.edm_values.proofs.PlaceFacts.{map-agree_places}
use Rattle.edm_values.proofs.TopPlaces.{map-places}
use Rattle.apply_meaning.specs.Instances.{Instance, extended, no_instance}
use Rattle.apply_meaning.specs.RowViews.{columns_differ}
use Rattle.row_frames.specs.declared.tables.Column.{Column}
use Rattle.row_frames.specs.declared.tables.Table.{Table}
use Rattle.row_frames.specs.declared.tables.Pick.{Pick}
use Rattle.row_frames.specs.Columned.{widened}
use Rattle.row_frames.specs.Frames.{IsTable, all_picked, column_at, first_pick, listed, picked}
use Rattle.row_frames.specs.Gathered.{AreComputed, AreInOrder}
use Rattle.row_frames.proofs.ColumnedLemmas.{across}
use Rattle.row_frames.proofs.ComputeLemmas.{free-tables, pick-widened}

module _ (ts us : List Table) (xs : List Pick) (cs : List Column) (g : List (Path × List Value)) (e : map listed cs ≡ g) (C : AreComputed xs cs 0 ts us) where
  abbrev at : ℕ → Pick
  at k = get_or xs k (first_pick 0)

  -- the instance at a place with what stands there of the columns
  widened-at : (k : ℕ) → k < length xs → extended (picked ts (at k)) (map (column_at k) cs) ≡ widened g (all_picked ts xs) k
  widened-at k h = λ i. extended (sym (get_or-map (picked ts) xs k (first_pick 0) no_instance h) i) ((across cs k ∙ ap (λ g. (widened g [] k).columns) e) i)

  pub extended-tables : All IsTable ts → ((k : ℕ) → k < length (all_picked ts xs) → IsTrue (columns_differ (widened g (all_picked ts xs) k).columns)) → All IsTable us
  extended-tables T free =
      let size = length-map xs (picked ts) in
      free-tables ts us xs cs (first_pick 0) T C (λ k h. ap (λ (i : Instance). columns_differ i.columns) (widened-at k h) ∙ free k (omega (arith, size, h)))

  pub extended-picked : AreInOrder xs → All (λ x. x.table < length ts) xs → all_picked us xs ≡ map (widened g (all_picked ts xs)) (places (length (all_picked ts xs)))
  extended-picked O W =
      ap (map (picked us)) (sym (map-places xs (first_pick 0)))
      ∙ map-map (picked us) at (places (length xs))
      ∙ map-agree_places (λ k. picked us (at k)) (widened g (all_picked ts xs)) (length xs) (λ k h.
      pick-widened ts us xs cs k (first_pick 0) C O h (All-get_or (λ x. x.table < length ts) xs k (first_pick 0) h W) ∙ widened-at k h)
      ∙ ap (λ n. map (widened g (all_picked ts xs)) (places n)) (sym (length-map xs (picked ts)))
