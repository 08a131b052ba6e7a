use Rattle.std.proofs.Common.{◌≡◌, ◌+◌, length, map}
use Rattle.edm_values.specs.Lists.{places}
use Rattle.edm_data.specs.Worlds.{entity_at}
use Rattle.apply_meaning.specs.Instances.{entity_instance}
use Rattle.apply_meaning.proofs.sets.set_rows.Given as goal

-- the rows of the entities so far, each of which was a step
abbrev pub invariant-loop-at : goal.invariant-loop-at
invariant-loop-at g l = (l.made.items ≡ map entity_instance (map (entity_at l.set) (places l.at))) × (l.steps ≡ l.fn.steps + l.at) × (length l.made.items ≡ l.at)
