use Rattle.std.proofs.Common.{◌≡◌, take, position, option_map, None}
use Rattle.serde_json.specs.View.{view}
use Rattle.edm_values.specs.Values.{seen_value}
use Rattle.data_diagnosis.specs.EntityFaults.{key_in, same_key}
use Rattle.data_diagnosis.proofs.keys.earlier_with_key.Given as goal

abbrev pub invariant-loop-k : goal.invariant-loop-k
invariant-loop-k l = position (λ y. same_key (option_map seen_value l.key) (key_in l.model l.s (view y))) (take l.k l.items) ≡ None
