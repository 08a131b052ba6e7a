-- Data files: the entities of each set as JSON (JSON Format 4.01, sections 6 and 7.1), in this project's form, and the world that a file states over a model.
use Rattle.std.specs.Prelude.{ℕ, ◌^◌, ◌&&◌, ◌||◌, Bool, not, if◌then◌else◌, List, [], length, take, map, find, slice_get, ℤ, pos, ◌*ℤ◌, nat_lt, Option, Some, None, option_map, option_and_then, unwrap_or, is_none}
use Rattle.std.specs.List.{list_any, list_all}
use Rattle.serde_json.specs.Data.{Data, null, boolean, number, string}
use Rattle.serde_json.specs.Find.{get, as_integer}
use Rattle.edm_values.specs.Lists.{same_text, all_some}
use Rattle.edm_values.specs.declared.Value.{Value}
use Rattle.edm_values.specs.declared.EdmType.{EdmType}
use Rattle.edm_model.specs.Models.{Property, Navigation, EntitySet, Model}
use Rattle.edm_data.specs.Worlds.{World, Entity, all_places}
use Rattle.edm_values.specs.Values.{is_null, same_value}
use Rattle.edm_values.specs.Literals.{Literal, Written, integer_literal, integer_in_range, decimal_literal, decimal_in_range, day_literal}
use Rattle.edm_model.specs.JsonTrees.{Member, json_of, items_in, members_in, is_object, is_array}
use Rattle.edm_model.specs.ModelTrees.{is_annotation}
use Rattle.edm_model.specs.LookUps.{properties_of}
use Rattle.edm_data.specs.References.{property, key, keys_of, navigations_in, referred}

-- ---- values and entities

-- the value of a text that is a literal
abbrev pub written : Literal → Option Value
written (Written v) = Some v
written _ = None

-- the value that a whole number is of the type
abbrev pub whole_value : EdmType → ℤ → Option Value
whole_value EdmType.Int z = written (integer_in_range z)
whole_value (EdmType.Dec scale precision) z = written (decimal_in_range scale precision (z *ℤ pos (10 ^ scale)))
whole_value _ z = None

-- the value of a JSON value that is not null. A whole number is one that is held as an integer of 64 bits
abbrev pub json_value : EdmType → Data → Option Value
json_value EdmType.Bool (boolean b) = Some (Value.Bool b)
json_value EdmType.Int (string t) = written (integer_literal t)
json_value (EdmType.Dec scale precision) (string t) = written (decimal_literal scale precision t)
json_value EdmType.Text (string t) = Some (Value.Text t)
json_value EdmType.Day (string t) = written (day_literal t)
json_value kind (number n) = option_and_then (whole_value kind) (as_integer n)
json_value _ _ = None

-- null, where the property is nullable
abbrev pub null_value : Property → Option Value
null_value p = if p.nullable then Some Value.Null else None

-- a member that is absent counts as null
abbrev pub given_value : Property → Data → Option Value
given_value p null = null_value p
given_value p d = json_value p.kind d

-- the value that an entity gives a property, if it is one of the property
abbrev pub property_value : Data → Property → Option Value
property_value d p = unwrap_or (option_map (given_value p) (get p.name d)) (null_value p)

-- the member names one of these properties, or is an annotation, which is not read
abbrev pub is_known_member : List Property → Member → Bool
is_known_member ps m = is_annotation m.0 || list_any (λ p. same_text p.name m.0) ps

-- the values of these properties in their order, where the JSON is an entity with these properties
abbrev pub entity_of : List Property → Data → Option (List Value)
entity_of ps d = if is_object d && list_all (is_known_member ps) (members_in d) then all_some (map (property_value d) ps) else None

-- ---- the answers

-- what a data file is: a world; too long; no JSON object; or the first place of the first rule that it breaks
pub data DataReading : Type 0 where
  World' : World → DataReading
  TooLong : DataReading
  NoJson : DataReading
  Set : List ℕ → DataReading
  Shape : Entity → DataReading
  TwiceKey : Entity → DataReading
  Dangling : Entity → DataReading

-- the first fault, or else the next reading
abbrev pub unless_found : {X : Type 0} → Option X → (X → DataReading) → DataReading → DataReading
unless_found None fault next = next
unless_found (Some x) fault next = fault x

-- what is read of a world, where there is one
abbrev pub with_world : DataReading → (World → DataReading) → DataReading
with_world (World' w) next = next w
with_world r next = r

-- ---- the sets of a file

-- the member names a set and is an array
abbrev pub is_set_member : Model → Member → Bool
is_set_member m e = list_any (λ s. same_text s.name e.0) m.sets && is_array e.1

-- a set's array; a set that the file does not name is empty
abbrev pub array_in : Data → EntitySet → List Data
array_in d s = items_in (unwrap_or (get s.name d) null)

-- what an item of a set's array is: the values of an entity of the set's type, if it is one
abbrev pub item_of : Model → EntitySet → Data → Option (List Value)
item_of m s x = entity_of (properties_of m s.of) x

-- what each item of a set's array is
abbrev pub items_of_set : Model → Data → EntitySet → List (Option (List Value))
items_of_set m d s = map (item_of m s) (array_in d s)

-- for each set, what each item is
abbrev pub items_of_sets : Model → Data → List (List (Option (List Value)))
items_of_sets m d = map (items_of_set m d) m.sets

-- the item at a place is no entity of its set's type
abbrev pub is_no_entity : List (List (Option (List Value))) → Entity → Bool
is_no_entity rows e = is_none (unwrap_or (option_and_then (λ row. slice_get row e.at) (slice_get rows e.set)) None)

-- the world of items that are entities
abbrev pub world_of : Model → List (List (Option (List Value))) → World
world_of m rows = record { model = m; entities = map (map (λ o. unwrap_or o [])) rows }

-- the first item that is no entity, or else the world of the items
abbrev pub rows_reading : Model → List (List (Option (List Value))) → DataReading
rows_reading m rows = unless_found (find (is_no_entity rows) (all_places rows)) Shape (World' (world_of m rows))

-- the first member that is no array of a set, or else what the sets' items are
abbrev pub object_reading : Model → Data → DataReading
object_reading m d = unless_found (find (λ e. not (is_set_member m e)) (members_in d)) (λ e. Set e.0) (rows_reading m (items_of_sets m d))

-- what a JSON tree is but for keys and references: each entity has the form of its type, or it is the first that has not
abbrev pub entities_in_tree : Model → Data → DataReading
entities_in_tree m d = if is_object d then object_reading m d else NoJson

-- ---- keys and references

-- the entity's key stands earlier in its set
abbrev pub has_earlier_key : World → Entity → Bool
has_earlier_key w e = list_any (same_value (key w e)) (take e.at (keys_of w e.set))

-- the first entity whose key stands earlier, or else the world
abbrev pub keys_reading : World → DataReading
keys_reading w = unless_found (find (has_earlier_key w) (all_places w.entities)) TwiceKey (World' w)

-- the navigation is single-valued, and by it the entity refers to a key that is not there
abbrev pub dangles : World → Entity → Navigation → Bool
dangles w e n = not n.many && not (is_null (property w e n.dependent)) && is_none (referred w e n)

-- the entity refers to a key that is not there
abbrev pub is_dangling : World → Entity → Bool
is_dangling w e = list_any (dangles w e) (navigations_in w.model e.set)

-- the first entity that refers to a key that is not there, or else the world
abbrev pub references_reading : World → DataReading
references_reading w = unless_found (find (is_dangling w) (all_places w.entities)) Dangling (World' w)

-- ---- the file

-- a data file has at most so many bytes
abbrev pub data_limit : ℕ
data_limit = 33554432

-- what the bytes of a file are but for keys and references
abbrev pub entities_reading : Model → List ℕ → DataReading
entities_reading m file = if nat_lt data_limit (length file) then TooLong else unwrap_or (option_map (entities_in_tree m) (json_of file)) NoJson

-- what a JSON tree is as a data file
abbrev pub data_tree_reading : Model → Data → DataReading
data_tree_reading m d = with_world (with_world (entities_in_tree m d) keys_reading) references_reading

-- what the bytes of a file are as a data file: keys are judged where each entity has its form, and references where the keys differ
abbrev pub data_reading : Model → List ℕ → DataReading
data_reading m file = with_world (with_world (entities_reading m file) keys_reading) references_reading
