use Rattle.std.proofs.Common.{◌≡◌, map, take, Some}
use Rattle.serde_json.specs.View.{view}
use Rattle.edm_values.specs.Values.{seen_value}
use Rattle.edm_model.specs.LookUps.{properties_of}
use Rattle.edm_data.specs.DataFile.{property_value}
use Rattle.edm_data.proofs.entities.entity_values.Given as goal

abbrev pub invariant-loop-p : goal.invariant-loop-p
invariant-loop-p l = map Some (map seen_value l.values.items) ≡ map (property_value (view l.item)) (take l.p-index (properties_of l.fn.model l.fn.t))
