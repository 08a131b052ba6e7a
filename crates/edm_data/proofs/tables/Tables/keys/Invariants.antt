use Rattle.std.proofs.Common.{◌≡◌, map, take}
use Rattle.edm_values.specs.Values.{seen_value}
use Rattle.edm_data.specs.References.{keys_of}
use Rattle.edm_data.proofs.tables.Tables.keys.Given as goal

abbrev pub invariant-loop-at : goal.invariant-loop-at
invariant-loop-at l = map (λ k. seen_value k.value) l.keys.items ≡ take l.at (keys_of l.self l.s)
