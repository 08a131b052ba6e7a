use Rattle.std.proofs.Common.{◌<◌, All, take}
use Rattle.edm_values.specs.Values.{seen_value}
use Rattle.value_codes.specs.Above.{AreCoded, IsCode}
use Rattle.value_codes.proofs.above.codes_above.Given as goal

-- those so far
abbrev pub invariant-loop-value : goal.invariant-loop-value
invariant-loop-value l = AreCoded (λ v. IsCode l.spread.kind l.spread.least (seen_value v)) (take l.value-index l.list) l.codes.items × All (λ c. c < l.bound) l.codes.items
