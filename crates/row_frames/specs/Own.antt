-- Paths that are properties of the entities at the empty prefix (URL Conventions 4.01, section 5.1.1.15).
use Rattle.std.specs.Prelude.{◌≡◌, ℕ, Some}
use Rattle.edm_values.specs.Names.{Path}
use Rattle.edm_data.specs.References.{property}
use Rattle.edm_data.specs.Worlds.{World, entity_at}
use Rattle.apply_meaning.specs.Instances.{Instance, lookup, root_of}

-- the instance stands at an entity of the set, and the path is this property of it
pub record IsOwn (w : World) (p : Path) (s q : ℕ) (i : Instance) : Type 0 where
  pub at : ℕ
  pub root : root_of i ≡ Some (entity_at s at)
  pub value : lookup w i p ≡ property w (entity_at s at) q
