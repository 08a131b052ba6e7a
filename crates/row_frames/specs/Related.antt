-- Related entities, and instances that are entities of one set.
use Rattle.std.specs.Prelude.{◌≡◌, ℕ, List, [], Option, Some, None, if◌then◌else◌}
use Rattle.edm_model.specs.Models.{Navigation}
use Rattle.edm_data.specs.References.{related_by}
use Rattle.edm_data.specs.Worlds.{Entity, World, entity_at}
use Rattle.apply_meaning.specs.Instances.{Instance, entity_instance}
use Rattle.row_frames.specs.declared.tables.Table.{Table}
use Rattle.row_frames.specs.Frames.{instance_at, place_in}

-- the entities that a collection-valued navigation relates an entity to, none where there is no entity
abbrev pub related_to : World → Navigation → Option Entity → List Entity
related_to w v None = []
related_to w v (Some e) = if v.many then related_by w e v else []

-- the instance of the entity at a place of a set
abbrev pub placed : ℕ → ℕ → Instance
placed s k = entity_instance (entity_at s k)

-- each row of the table is an entity of the set
abbrev pub IsOfSet : ℕ → Table → Type 0
IsOfSet s t = (k : ℕ) → instance_at t k ≡ placed s (place_in t.roots k)
