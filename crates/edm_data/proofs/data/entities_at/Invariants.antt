use Rattle.std.proofs.Common.{◌≡◌, map, take}
use Rattle.edm_data.specs.Worlds.{entity_at}
use Rattle.edm_data.proofs.data.entities_at.Given as goal

abbrev pub invariant-loop-at : goal.invariant-loop-at
invariant-loop-at l = l.found.items ≡ map (entity_at l.set) (take l.at-index l.places)
