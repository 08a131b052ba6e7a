-- Worlds whose lists have the form that their model says.
use Rattle.std.specs.Prelude.{ℕ, ◌≡◌, ◌<◌, ◌^◌, ◌&&◌, Bool, true, false, not, if◌then◌else◌, List, [], ◌∷◌, length, slice_get, Some}
use Rattle.edm_values.specs.declared.Value.{Value}
use Rattle.edm_values.specs.Values.{is_null, is_beyond}
use Rattle.edm_values.specs.Literals.{is_of_kind}
use Rattle.edm_model.specs.Models.{Property}
use Rattle.edm_model.specs.LookUps.{set_type, properties_of}
use Rattle.edm_data.specs.Worlds.{World}
use Rattle.edm_data.specs.References.{entities_of, count}

-- the value may be one of the property: null where the property is nullable, and else a value of its type
abbrev pub is_value_of : Property → Value → Bool
is_value_of p v = if is_null v then p.nullable else is_of_kind p.kind v && not (is_beyond v)

-- there is one value for each property, in order
abbrev pub are_values_of : List Property → List Value → Bool
are_values_of [] [] = true
are_values_of (p ∷ ps) (v ∷ vs) = is_value_of p v && are_values_of ps vs
are_values_of _ _ = false

-- there is one list for each set of the model, of fewer than 2 ^ 32 entities, each with one value for each property of the set's type
pub record FitsModel (w : World) : Type 0 where
  pub sets : length w.entities ≡ length w.model.sets
  pub counts : (s : ℕ) → count w s < 2 ^ 32
  pub rows : (s k : ℕ) (vs : List Value) → slice_get (entities_of w s) k ≡ Some vs → are_values_of (properties_of w.model (set_type w.model s)) vs ≡ true
