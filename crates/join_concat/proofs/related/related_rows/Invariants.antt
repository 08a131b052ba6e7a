use Rattle.std.proofs.Common.{◌≡◌, ◌+◌, length, map, take}
use Rattle.apply_meaning.specs.Instances.{entity_instance}
use Rattle.join_concat.proofs.related.related_rows.Given as goal

-- the rows of the entities so far, each of which was a step
abbrev pub invariant-loop-other : goal.invariant-loop-other
invariant-loop-other g l = (l.made.items ≡ map entity_instance (take l.other-index l.other-items)) × (l.steps ≡ l.fn.steps + l.other-index) × (length l.made.items ≡ l.other-index)
