-- Entities and references of a world, as searches and filters of its lists (OData Protocol 4.01, section 4; CSDL JSON 4.01, section 8).
use Rattle.std.specs.Prelude.{ℕ, ◌==◌, ◌&&◌, Bool, false, if◌then◌else◌, List, [], length, map, filter, position, slice_get, Option, None, option_map, option_and_then, unwrap_or}
use Rattle.edm_values.specs.Lists.{places}
use Rattle.edm_values.specs.declared.Value.{Value}
use Rattle.edm_values.specs.Values.{is_null, same_value, value_in}
use Rattle.edm_model.specs.Models.{Navigation, Model}
use Rattle.edm_model.specs.LookUps.{type_of_set, set_of_type, navigation_at, key_at}
use Rattle.edm_data.specs.Worlds.{World, Entity, entity_at}

-- ---- entities

-- the entities of a set, each as its values
abbrev pub entities_of : World → ℕ → List (List Value)
entities_of w s = unwrap_or (slice_get w.entities s) []

-- the number of a set's entities
abbrev pub count : World → ℕ → ℕ
count w s = length (entities_of w s)

-- a set's entities in data order
abbrev pub entities_in : World → ℕ → List Entity
entities_in w s = map (entity_at s) (places (count w s))

-- the place of an entity's type
abbrev pub entity_type : World → Entity → Option ℕ
entity_type w e = option_map (λ s. s.of) (slice_get w.model.sets e.set)

-- two entities are one
abbrev pub same_entity : Entity → Entity → Bool
same_entity a b = a.set == b.set && a.at == b.at

-- the value of a property of an entity
abbrev pub property : World → Entity → ℕ → Value
property w e p = value_in (unwrap_or (slice_get (entities_of w e.set) e.at) []) p

-- the entity's identifier
abbrev pub key : World → Entity → Value
key w e = property w e (key_at w.model e.set)

-- the identifiers of a set's entities, in data order
abbrev pub keys_of : World → ℕ → List Value
keys_of w s = map (λ vs. value_in vs (key_at w.model s)) (entities_of w s)

-- ---- references

-- the navigations of a set's type
abbrev pub navigations_in : Model → ℕ → List Navigation
navigations_in m s = unwrap_or (option_map (λ t. t.navigations) (type_of_set m s)) []

-- the entity of a set that has this key
abbrev pub by_key : World → ℕ → Value → Option Entity
by_key w s v = option_map (entity_at s) (position (same_value v) (keys_of w s))

-- what an entity refers to by a single-valued navigation: none where its dependent property is null
abbrev pub referred : World → Entity → Navigation → Option Entity
referred w e n = if is_null (property w e n.dependent) then None else by_key w (set_of_type w.model n.target) (property w e n.dependent)

-- what an entity refers to by the navigation at this place; by a collection-valued one, nothing
abbrev pub follow : World → Entity → ℕ → Option Entity
follow w e n = option_and_then (λ x. if x.many then None else referred w e x) (navigation_at w.model e.set n)

-- the first entity refers to the second by this navigation
abbrev pub refers_to : World → ℕ → Entity → Entity → Bool
refers_to w n from to = unwrap_or (option_map (same_entity to) (follow w from n)) false

-- the entities that a collection-valued navigation relates an entity to: those of the target's set whose partner navigation refers to it, in data order
abbrev pub related_by : World → Entity → Navigation → List Entity
related_by w e n = filter (λ x. refers_to w n.partner x e) (entities_in w (set_of_type w.model n.target))

-- those of the navigation at this place; by a single-valued one, none
abbrev pub related : World → Entity → ℕ → List Entity
related w e n = unwrap_or (option_map (λ x. if x.many then related_by w e x else []) (navigation_at w.model e.set n)) []
