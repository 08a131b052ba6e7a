use Rattle.std.proofs.Common.{◌≡◌, map, take}
use Rattle.edm_data.specs.Worlds.{Entity}
use Rattle.row_frames.specs.Frames.{first_pick}
use Rattle.row_frames.proofs.related.entity_picks.Given as goal

abbrev pub invariant-loop-entity : goal.invariant-loop-entity
invariant-loop-entity l = l.picks.items ≡ map (λ (e : Entity). first_pick e.at) (take l.entity-index l.found)
