-- Reading in a JSON tree.
use Rattle.std.specs.Prelude.{ℕ, Bool, true, false, if◌then◌else◌, List, [], ◌∷◌, Option, Some, None, option_map, option_and_then, unwrap_or, is_none, is_some}
use Rattle.std.specs.Str.{is_utf8}
use Rattle.serde_json.specs.Data.{Data, array, object, Items, no_items, item, Members, no_members, member}
use Rattle.serde_json.specs.Read.{read}
use Rattle.serde_json.specs.Find.{get, as_str, as_bool, as_number, as_u64, as_array, as_object}
use Rattle.serde_json.specs.View.{items_of}
use Rattle.edm_values.specs.Lists.{same_text}

-- a member of an object: its name and its value
abbrev pub Member : Type 0
Member = List ℕ × Data

-- the JSON tree of bytes that are UTF-8 and JSON
abbrev pub json_of : List ℕ → Option Data
json_of bytes = if is_utf8 bytes then read bytes else None

-- the items in a list
abbrev pub item_list : Items → List Data
item_list no_items = []
item_list (item d ds) = d ∷ item_list ds

-- the members in a list
abbrev pub member_list : Members → List Member
member_list no_members = []
member_list (member k d ms) = (k, d) ∷ member_list ms

-- the items of an array; of anything else, none
abbrev pub items_in : Data → List Data
items_in d = item_list (unwrap_or (as_array d) no_items)

-- the members of an object; of anything else, none
abbrev pub members_in : Data → List Member
members_in d = member_list (unwrap_or (as_object d) no_members)

-- the one element of a list of exactly one
abbrev pub only : {X : Type 0} → List X → Option X
only [] = None
only (x ∷ []) = Some x
only (x ∷ (y ∷ xs)) = None

-- members in this order
abbrev pub members_tree : List Member → Members
members_tree [] = no_members
members_tree (m ∷ ms) = member m.0 m.1 (members_tree ms)

-- the object with these members
abbrev pub object_of : List Member → Data
object_of ms = object (members_tree ms)

-- the array with these items
abbrev pub array_of : List Data → Data
array_of ds = array (items_of ds)

-- ---- tests of a tree

-- it is an object
abbrev pub is_object : Data → Bool
is_object d = is_some (as_object d)

-- it is an array
abbrev pub is_array : Data → Bool
is_array d = is_some (as_array d)

-- it is a string
abbrev pub is_string : Data → Bool
is_string d = is_some (as_str d)

-- it is true or false
abbrev pub is_boolean : Data → Bool
is_boolean d = is_some (as_bool d)

-- it is true
abbrev pub is_true : Data → Bool
is_true d = unwrap_or (as_bool d) false

-- it is this string
abbrev pub is_text : List ℕ → Data → Bool
is_text t d = unwrap_or (option_map (same_text t) (as_str d)) false

-- a number that is written whole and is not negative
abbrev pub whole_number : Data → Option ℕ
whole_number d = option_and_then as_u64 (as_number d)

-- an array of exactly one string
abbrev pub only_string : Data → Option (List ℕ)
only_string d = option_and_then as_str (only (items_in d))

-- ---- members by name

-- the member stands and passes
abbrev pub passes_at : List ℕ → (Data → Bool) → Data → Bool
passes_at name test d = unwrap_or (option_map test (get name d)) false

-- the member passes where it stands
abbrev pub passes_if_at : List ℕ → (Data → Bool) → Data → Bool
passes_if_at name test d = unwrap_or (option_map test (get name d)) true

-- there is no such member
abbrev pub lacks : List ℕ → Data → Bool
lacks name d = is_none (get name d)

-- the text of a string member, or the one that stands in its place
abbrev pub text_at_or : List ℕ → List ℕ → Data → List ℕ
text_at_or other name d = unwrap_or (option_and_then as_str (get name d)) other

-- the text of a string member, or nothing
abbrev pub text_at : List ℕ → Data → List ℕ
text_at = text_at_or []
