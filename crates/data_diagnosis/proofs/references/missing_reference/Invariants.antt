use Rattle.std.proofs.Common.{◌≡◌, false, take}
use Rattle.std.specs.List.{list_any}
use Rattle.serde_json.specs.View.{view}
use Rattle.data_diagnosis.specs.EntityFaults.{misses}
use Rattle.data_diagnosis.proofs.references.missing_reference.Given as goal

abbrev pub invariant-loop-n : goal.invariant-loop-n
invariant-loop-n l = list_any (misses l.model (view l.root) (view l.item)) (take l.n-index l.navs) ≡ false
