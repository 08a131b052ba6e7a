use Rattle.std.proofs.Common.{◌≡◌, true, take}
use Rattle.std.specs.Option.{is_some}
use Rattle.std.specs.List.{list_all}
use Rattle.serde_json.specs.View.{view}
use Rattle.edm_model.specs.LookUps.{properties_of}
use Rattle.edm_data.specs.DataFile.{property_value}
use Rattle.data_diagnosis.proofs.shapes.value_fault.Given as goal

abbrev pub invariant-loop-p : goal.invariant-loop-p
invariant-loop-p l = list_all (λ q. is_some (property_value (view l.item) q)) (take l.p-index (properties_of l.model l.fn.t)) ≡ true
