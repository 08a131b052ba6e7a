-- Tests of the key of a set's entities.
use Rattle.std.specs.Prelude.{◌≡◌, ℕ, IsTrue, true, false}
use Rattle.edm_values.specs.declared.EdmType.{EdmType}
use Rattle.edm_values.specs.declared.Value.{Value}
use Rattle.edm_values.specs.Literals.{is_of_kind}
use Rattle.edm_values.specs.Names.{Path}
use Rattle.edm_values.specs.Values.{equal, is_beyond, is_value, same_value}
use Rattle.edm_data.specs.References.{key}
use Rattle.edm_data.specs.Worlds.{World, entity_at}
use Rattle.apply_meaning.specs.Instances.{lookup}
use Rattle.row_frames.specs.Related.{placed}

-- the value equals another exactly where both are the same, and to compare them is not Beyond
pub record IsSought (v x : Value) : Type 0 where
  pub same : is_value true (equal x v) ≡ same_value v x
  pub quiet : is_beyond (equal x v) ≡ false

-- the path has the key of the entity at this place of a set, which is of this type and not Beyond
pub record IsKeyPath (w : World) (p : Path) (s : ℕ) (t : EdmType) (k : ℕ) : Type 0 where
  pub value : lookup w (placed s k) p ≡ key w (entity_at s k)
  pub kind : IsTrue (is_of_kind t (key w (entity_at s k)))
  pub quiet : is_beyond (key w (entity_at s k)) ≡ false
