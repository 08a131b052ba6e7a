use Rattle.std.proofs.Common.{◌≡◌, false, Some, take}
use Rattle.std.specs.List.{list_any}
use Rattle.serde_json.specs.View.{view}
use Rattle.edm_values.specs.Values.{seen_value}
use Rattle.data_diagnosis.specs.EntityFaults.{key_in, same_key}
use Rattle.data_diagnosis.proofs.references.has_item.Given as goal

abbrev pub invariant-loop-item : goal.invariant-loop-item
invariant-loop-item l = list_any (λ y. same_key (Some (seen_value l.key)) (key_in l.model l.s (view y))) (take l.item-index l.items) ≡ false
