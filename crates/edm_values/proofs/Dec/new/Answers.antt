-- The decimal that is made is the one of its parts.
use Rattle.std.proofs.Common.{refl}
use Rattle.std.proofs.lemmas.Int.{to_z-of_z}
use Rattle.edm_values.proofs.MadeValues.{decimal_from_parts}
use Rattle.edm_values.proofs.Dec.new.Goals as goal

pub returns : goal.returns
returns c = record { value = decimal_from_parts _ _ _ (to_z-of_z _ _ c.ranges.m) refl }
