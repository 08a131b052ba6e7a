use Rattle.std.proofs.Common.{◌≡◌, length, map, take}
use Rattle.serde_json.specs.View.{view}
use Rattle.edm_model.specs.LookUps.{properties_of}
use Rattle.edm_data.specs.DataFile.{entity_of}
use Rattle.edm_data.specs.FirstItems.{rows_read}
use Rattle.edm_data.proofs.entities.set_rows.Given as goal

abbrev pub invariant-loop-k : goal.invariant-loop-k
invariant-loop-k l = record {
  read : rows_read l.rows ≡ map (λ x. entity_of (properties_of l.model l.t) (view x)) (take l.k l.items);
  width : l.rows.width ≡ length (properties_of l.model l.t);
}
