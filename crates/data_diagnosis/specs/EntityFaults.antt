-- What is at fault in an entity of a data file that is refused (JSON Format 4.01, section 7.1): a member of its own, its key, or a reference.
use Rattle.std.specs.Prelude.{ℕ, ◌==◌, ◌&&◌, Bool, true, false, not, List, [], length, take, position, slice_get, Option, Some, option_map, option_and_then, unwrap_or, is_none, ⊤}
use Rattle.std.specs.List.{list_any}
use Rattle.serde_json.specs.Data.{Data, null}
use Rattle.serde_json.specs.Find.{get}
use Rattle.edm_values.specs.Lists.{same_text, is_some_and}
use Rattle.edm_values.specs.declared.Value.{Value}
use Rattle.edm_values.specs.Values.{is_null, same_value}
use Rattle.edm_model.specs.JsonTrees.{is_object, members_in}
use Rattle.edm_model.specs.Models.{Property, Navigation, Model, Part}
use Rattle.edm_model.specs.LookUps.{IsProperty, properties_of, property_at, navigation_on, dependent_of, key_of, set_type, set_of_type, navigations_of, parts}
use Rattle.edm_data.specs.DataFile.{is_known_member, property_value, array_in}
use Rattle.data_diagnosis.specs.declared.shapes.ShapeFault.{ShapeFault}

-- ---- the members of an entity

-- the JSON value is null
abbrev pub is_json_null : Data → Bool
is_json_null null = true
is_json_null _ = false

-- the entity has no member for the property, or null
abbrev pub is_absent : Property → Data → Bool
is_absent p d = unwrap_or (option_map is_json_null (get p.name d)) true

-- a member, or the lack of one, by which an item is no entity of the type at this place; what is no object has no fault but that
abbrev pub is_shape_fault : Model → ℕ → Data → ShapeFault → Bool
is_shape_fault m t d ShapeFault.Object = not (is_object d)
is_shape_fault m t d (ShapeFault.Member name) = is_object d && list_any (λ e. same_text e.0 name.now && not (is_known_member (properties_of m t) e)) (members_in d)
is_shape_fault m t d (ShapeFault.Null p) = is_object d && p.of == t && is_some_and (λ q. is_absent q d && is_none (property_value d q)) (property_at m p)
is_shape_fault m t d (ShapeFault.Value p) = is_object d && p.of == t && is_some_and (λ q. not (is_absent q d) && is_none (property_value d q)) (property_at m p)

-- a property that is named at fault is one of the model
abbrev pub NamesProperty : Model → ShapeFault → Type 0
NamesProperty m (ShapeFault.Null p) = IsProperty m p
NamesProperty m (ShapeFault.Value p) = IsProperty m p
NamesProperty m _ = ⊤

-- ---- keys and references

-- the key of an item of the set at this place, if it has one
abbrev pub key_in : Model → ℕ → Data → Option Value
key_in m s d = option_and_then (property_value d) (property_at m (key_of m (set_type m s)))

-- both are values, and they are one
abbrev pub same_key : Option Value → Option Value → Bool
same_key a b = is_some_and (λ x. is_some_and (same_value x) b) a

-- the place of the first of these items of a set, before the one at k, that has its key
abbrev pub earlier_place : Model → ℕ → List Data → ℕ → Option ℕ
earlier_place m s xs k = option_and_then (λ x. position (λ y. same_key (key_in m s x) (key_in m s y)) (take k xs)) (slice_get xs k)

-- the items of the set at this place
abbrev pub items_in_set : Model → Data → ℕ → List Data
items_in_set m root s = unwrap_or (option_map (array_in root) (slice_get m.sets s)) []

-- an item of the set has this key
abbrev pub has_key : Model → Data → ℕ → Option Value → Bool
has_key m root s v = list_any (λ x. same_key v (key_in m s x)) (items_in_set m root s)

-- the value of the property by which an item refers by a single-valued navigation
abbrev pub reference_in : Model → Part → Navigation → Data → Option Value
reference_in m n v d = option_and_then (property_value d) (property_at m (dependent_of n v))

-- by this single-valued navigation the item refers to a key that no item of the target's set has
abbrev pub misses : Model → Data → Data → Part → Bool
misses m root d n = is_some_and (λ v. not v.many && is_some_and (λ x. not (is_null x) && not (has_key m root (set_of_type m v.target) (Some x))) (reference_in m n v d)) (navigation_on m n)

-- by a single-valued navigation of the set's type the item refers to a key that is not there
abbrev pub misses_one : Model → Data → ℕ → Data → Bool
misses_one m root s d = list_any (misses m root d) (parts (set_type m s) (length (navigations_of m (set_type m s))))
