-- Model files: the model that an accepted file states, and what the bytes of a file are as a model file. A tree that was read has its members in byte order of names, so the lists of the model have that order too.
use Rattle.std.specs.Prelude.{ℕ, Bool, if◌then◌else◌, List, length, map, filter_map, codes, nat_lt, option_map, option_and_then, unwrap_or}
use Rattle.serde_json.specs.Data.{Data, null}
use Rattle.serde_json.specs.Find.{get, as_str}
use Rattle.edm_values.specs.declared.EdmType.{EdmType}
use Rattle.edm_values.specs.declared.Method.{Method}
use Rattle.edm_schema.specs.JsonTrees.{Member, json_of, items_in, is_object, is_true, passes_at, text_at}
use Rattle.edm_schema.specs.ModelTrees.{hierarchy_term, definition_term, qualifier, type_members, set_members, property_members, navigation_members, term_members, member_place, kind_of, is_nullable, key_name, type_place, type_tree, constraint, method_at, is_model}
use Rattle.edm_model.specs.Models.{Property, Navigation, Hierarchy, Custom, EntityType, EntitySet, Model}

-- ---- the model of an accepted file

-- the navigation is collection-valued
abbrev pub is_many : Data → Bool
is_many n = passes_at (codes "$Collection") is_true n

-- what a navigation leads to
abbrev pub target_of : Data → Data → Data
target_of d n = unwrap_or (option_map (type_tree d) (type_place d n)) null

-- a property of the model
abbrev pub property_of : Member → Property
property_of m = record { name = m.0; kind = unwrap_or (kind_of m.1) EdmType.Text; nullable = is_nullable m.1 }

-- the place of the partner, which a collection-valued navigation alone has: `$Partner` of a single-valued one is not read
abbrev pub partner_place : Data → Data → ℕ
partner_place d n = if is_many n then unwrap_or (member_place (navigation_members (target_of d n)) (text_at (codes "$Partner") n)) 0 else 0

-- a navigation of the model
abbrev pub navigation_of : Data → Data → Member → Navigation
navigation_of d t m = record {
  name = m.0;
  target = unwrap_or (type_place d m.1) 0;
  many = is_many m.1;
  dependent = unwrap_or (option_and_then (λ c. member_place (property_members t) c.0) (constraint m.1)) 0;
  partner = partner_place d m.1;
}

-- a recursive hierarchy of the model with this qualifier
abbrev pub hierarchy_from : Data → List ℕ → Data → Hierarchy
hierarchy_from t name h = record { qualifier = name; parent = unwrap_or (member_place (navigation_members t) (text_at (codes "ParentNavigationProperty") h)) 0 }

-- a recursive hierarchy of the model
abbrev pub hierarchy_of : Data → Member → Hierarchy
hierarchy_of t m = hierarchy_from t (qualifier hierarchy_term m.0) m.1

-- a custom aggregate of the model with this name, and its definition
abbrev pub custom_from : List ℕ → Data → Custom
custom_from name c = record {
  name = name;
  of = text_at (codes "Of") c;
  method = unwrap_or (method_at (codes "With") c) Method.Sum;
  per = filter_map as_str (items_in (unwrap_or (get (codes "Per") c) null));
  outer = method_at (codes "Then") c;
}

-- a custom aggregate of the model
abbrev pub custom_of : Member → Custom
custom_of m = custom_from (qualifier definition_term m.0) m.1

-- an entity type of the model
abbrev pub type_of : Data → Member → EntityType
type_of d m = record {
  name = m.0;
  properties = map property_of (property_members m.1);
  key = unwrap_or (member_place (property_members m.1) (key_name m.1)) 0;
  navigations = map (navigation_of d m.1) (navigation_members m.1);
  hierarchies = map (hierarchy_of m.1) (term_members hierarchy_term m.1);
  customs = map custom_of (term_members definition_term m.1);
}

-- an entity set of the model
abbrev pub set_of : Data → Member → EntitySet
set_of d m = record { name = m.0; of = unwrap_or (type_place d m.1) 0 }

-- the model of a tree that is accepted
abbrev pub model_of : Data → Model
model_of d = record { types = map (type_of d) (type_members d); sets = map (set_of d) (set_members d) }

-- ---- the file

-- what a model file is: a model; too long; no JSON object; or against a rule
pub data ModelReading : Type 0 where
  Model' : Model → ModelReading
  TooLong : ModelReading
  NoJson : ModelReading
  NoModel : ModelReading

-- a model file has at most so many bytes
abbrev pub model_limit : ℕ
model_limit = 1048576

-- what a JSON tree is as a model file
abbrev pub model_tree_reading : Data → ModelReading
model_tree_reading d = if is_object d then (if is_model d then Model' (model_of d) else NoModel) else NoJson

-- what the bytes of a file are as a model file
abbrev pub model_reading : List ℕ → ModelReading
model_reading file = if nat_lt model_limit (length file) then TooLong else unwrap_or (option_map model_tree_reading (json_of file)) NoJson
