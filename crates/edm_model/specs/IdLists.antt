-- The lists of ids of a model, and its custom aggregates in a row.
use Rattle.std.specs.Prelude.{ℕ, ◌≡◌, List, map, flat_map, length, slice_get, Some, option_map}
use Rattle.std.specs.List.{enumerate_from}
use Rattle.edm_values.specs.Lists.{places}
use Rattle.edm_model.specs.Models as seen
use Rattle.edm_model.specs.Models.{Model, Part}
use Rattle.edm_model.specs.LookUps.{set_of_type, properties_of, navigations_of, hierarchies_of_type, customs_of_type, parts, IsType}
use Rattle.edm_model.specs.declared.parts.Custom.{Custom}
use Rattle.edm_model.specs.declared.parts.Ids.{Ids}

-- all hierarchies, by type name and then by qualifier
abbrev pub hierarchy_parts : Model → List Part
hierarchy_parts m = flat_map (λ t. parts t (length (hierarchies_of_type m t))) (places (length m.types))

-- a custom aggregate with its type and its id
abbrev pub custom_entry : ℕ → ℕ × seen.Custom → Custom
custom_entry t c = record { id = record { of = t; at = c.0 }; owner = t; name = (c.1).name; of = (c.1).of; method = (c.1).method; per = (c.1).per; outer = (c.1).outer }

-- the custom aggregates of a type, by name
abbrev pub customs_in : Model → ℕ → List Custom
customs_in m t = map (custom_entry t) (enumerate_from 0 (customs_of_type m t))

-- all custom aggregates, by type name and then by name
abbrev pub custom_list : Model → List Custom
custom_list m = flat_map (customs_in m) (places (length m.types))

-- the ids are those of the model
pub record HasIds (m : Model) (ids : Ids) : Type 0 where
  pub sets : ids.sets.items ≡ places (length m.sets)
  pub type_sets : (t : ℕ) → IsType m t → slice_get ids.type_sets.items t ≡ Some (set_of_type m t)
  pub properties : (t : ℕ) → IsType m t → option_map (λ v. v.items) (slice_get ids.properties.items t) ≡ Some (parts t (length (properties_of m t)))
  pub navigations : (t : ℕ) → IsType m t → option_map (λ v. v.items) (slice_get ids.navigations.items t) ≡ Some (parts t (length (navigations_of m t)))
  pub hierarchies : ids.hierarchies.items ≡ hierarchy_parts m
  pub customs : ids.customs.items ≡ custom_list m
