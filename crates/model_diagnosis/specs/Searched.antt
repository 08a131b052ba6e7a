-- What holds of a part in which no fault is found: some of the rules of `ModelTrees` together.
use Rattle.std.specs.Prelude.{ℕ, ◌||◌, ◌&&◌, Bool, List, codes, is_some}
use Rattle.std.specs.List.{list_all, slice_split}
use Rattle.serde_json.specs.Data.{Data}
use Rattle.edm_values.specs.Lists.{is_one_of, is_some_and}
use Rattle.edm_values.specs.Literals.{is_point}
use Rattle.edm_values.specs.Names.{is_name}
use Rattle.edm_schema.specs.JsonTrees.{members_in, is_object, is_string, is_boolean, is_true, is_text, passes_at, passes_if_at, text_at}
use Rattle.edm_schema.specs.ModelTrees.{namespace, is_unread, has_one_key, has_known_members, has_property_type, has_scale_in_place, kind_of, property_kind, key_name, constraint, are_of_one_kind, is_reference_to, is_navigable, is_hierarchy, method_at, has_groups_or_none, is_definition, is_custom_name, type_place, property_members, navigation_members, term_members, hierarchy_term, aggregate_term, definition_term, qualifier}

-- each member that is read has one of these names
abbrev pub has_only : List (List ℕ) → Data → Bool
has_only names d = list_all (λ m. is_unread m.0 || is_one_of names m.0) (members_in d)

-- ---- parts that pass their tests, whatever their other members

-- the root
abbrev pub passes_root_tests : Data → Bool
passes_root_tests d = is_object d && passes_at (codes "$Version") is_string d && passes_at (codes "$EntityContainer") is_string d && list_all is_name (slice_split is_point (namespace d)) && passes_at (namespace d) is_object d

-- a property
abbrev pub passes_property_tests : Data → Bool
passes_property_tests p = passes_if_at (codes "$Type") is_string p && passes_if_at (codes "$Nullable") is_boolean p && is_some (kind_of p) && has_scale_in_place p

-- a single-valued navigation of a type to a target
abbrev pub passes_reference_tests : Data → Data → Data → Bool
passes_reference_tests t target n = passes_at (codes "$ReferentialConstraint") is_object n && is_some_and (λ c. is_text (key_name target) c.1 && are_of_one_kind (property_kind t c.0) (property_kind target (key_name target))) (constraint n)

-- a collection-valued navigation of the type at this place to a target
abbrev pub passes_collection_tests : Data → ℕ → Data → Data → Bool
passes_collection_tests d k target n = passes_at (codes "$Collection") is_true n && passes_at (codes "$Partner") is_string n && is_reference_to d k target (text_at (codes "$Partner") n)

-- a hierarchy of the type at this place
abbrev pub passes_hierarchy_tests : Data → ℕ → Data → Data → Bool
passes_hierarchy_tests d k t h = is_object h && passes_at (codes "NodeProperty") (is_text (key_name t)) h && passes_at (codes "ParentNavigationProperty") is_string h && is_reference_to d k t (text_at (codes "ParentNavigationProperty") h)

-- the definition of a custom aggregate of this name in a type
abbrev pub passes_definition_tests : Data → List ℕ → Data → Bool
passes_definition_tests t name c = is_object c && passes_at (codes "Of") is_string c && is_some (method_at (codes "With") c) && has_groups_or_none c && is_custom_name t name

-- an entity set
abbrev pub passes_set_tests : Data → Data → Bool
passes_set_tests d s = is_object s && passes_at (codes "$Collection") is_true s && is_some (type_place d s)

-- ---- entity types

-- a property keeps both rules of properties
abbrev pub is_sound_property : Data → Bool
is_sound_property p = has_property_type p && has_scale_in_place p

-- an entity type has a key, known members and properties that keep their rules
abbrev pub has_sound_parts : Data → Bool
has_sound_parts t = has_one_key t && has_known_members t && list_all (λ m. is_sound_property m.1) (property_members t)

-- the hierarchies, custom aggregates and definitions of an entity type keep their rules
abbrev pub has_sound_terms : Data → ℕ → Data → Bool
has_sound_terms d k t = list_all (λ m. is_hierarchy d k t m.1) (term_members hierarchy_term t) && list_all (λ m. is_string m.1) (term_members aggregate_term t) && list_all (λ m. is_definition m.1 && is_custom_name t (qualifier definition_term m.0)) (term_members definition_term t)

-- the navigation properties and terms of an entity type keep their rules
abbrev pub has_sound_links : Data → ℕ → Data → Bool
has_sound_links d k t = list_all (λ m. is_navigable d k t m.1) (navigation_members t) && has_sound_terms d k t
