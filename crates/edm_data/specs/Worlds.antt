-- Worlds: a model and the entities of its sets (OData Protocol 4.01, section 4).
use Rattle.std.specs.Prelude.{ℕ, List, length, map, flat_map}
use Rattle.std.specs.List.{enumerate_from}
use Rattle.edm_values.specs.Lists.{places}
use Rattle.edm_values.specs.declared.Value.{Value}
use Rattle.edm_model.specs.Models.{Model}

-- a model and, for each of its sets, the list of entities, each with one value for each property of the set's type
pub record World : Type 0 where
  pub model : Model
  pub entities : List (List (List Value))

-- an entity of a world: its set and its place there
pub record Entity : Type 0 where
  pub set : ℕ
  pub at : ℕ

-- the entity at this place of this set
abbrev pub entity_at : ℕ → ℕ → Entity
entity_at s k = record { set = s; at = k }

-- the places in lists that stand for the sets, set by set
abbrev pub all_places : {X : Type 0} → List (List X) → List Entity
all_places xss = flat_map (λ p. map (entity_at p.0) (places (length p.1))) (enumerate_from 0 xss)
