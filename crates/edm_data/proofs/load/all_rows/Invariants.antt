use Rattle.std.proofs.Common.{◌≡◌, ℕ, ◌<◌, ◌^◌, map, take}
use Rattle.serde_json.specs.View.{view}
use Rattle.edm_data.specs.DataFile.{items_of_set, items_of_sets}
use Rattle.edm_data.specs.FirstItems.{rows_read}
use Rattle.edm_data.proofs.TreeLemmas.{AreEntities}
use Rattle.edm_data.proofs.FirstPlaces.{size_at}
use Rattle.edm_data.proofs.load.all_rows.Given as goal

abbrev pub invariant-loop-set : goal.invariant-loop-set
invariant-loop-set l = record {
  read : map rows_read l.sets.items ≡ map (items_of_set l.model (view l.root)) (take l.set-index l.model.sets);
  few : (s : ℕ) → s < l.set-index → size_at (items_of_sets l.model (view l.root)) s < 2 ^ 32;
  entities : (s : ℕ) → s < l.set-index → AreEntities (items_of_sets l.model (view l.root)) s;
}
