-- The text of a row: what stands in its slots, the members that are still to be written, and templates filled by a row.
use Rattle.std.specs.Prelude.{◌≡◌, ℕ, suc, max, ◌&&◌, if◌then◌else◌, Bool, true, false, List, [], ◌∷◌, ◌++◌, map, reverse, filter_map, flat_map, slice_get, codes, Option, Some, None, option_map, option_and_then, unwrap_or}
use Rattle.serde_json.specs.Data.{null, string}
use Rattle.serde_json.specs.Written.{comma_if, compact_text}
use Rattle.edm_values.specs.declared.Value.{Value}
use Rattle.edm_values.specs.declared.EdmType.{EdmType}
use Rattle.edm_values.specs.Lists.{find_map}
use Rattle.context_typing.specs.Shapes.{Shape}
use Rattle.context_typing.specs.Typing.{column_at}
use Rattle.edm_values.specs.Names.{Name, Path}
use Rattle.edm_model.specs.LookUps.{type_of_set}
use Rattle.edm_model.specs.Models.{Model, Property}
use Rattle.std.specs.List.{enumerate_from}
use Rattle.edm_model.specs.JsonTrees.{Member, object_of}
use Rattle.edm_data.specs.Worlds.{World, Entity}
use Rattle.edm_data.specs.References.{property}
use Rattle.apply_meaning.specs.Instances.{Instance}
use Rattle.json_render.specs.Bodies.{Shown, is_bound_to_none, is_empty, is_here, value_json, value_members, members_at, depth_of}
use Rattle.json_render.specs.Places.{NamedPart, inside_of, named_parts, next_parts}
use Rattle.json_render.specs.declared.entries.Part.{Part}
use Rattle.json_render.specs.declared.entries.TypeName.{TypeName}
use Rattle.json_render.specs.declared.members.Leaf.{Leaf}
use Rattle.json_render.specs.declared.members.Unwritten.{Unwritten}
use Rattle.json_render.specs.declared.templates.Piece.{Piece}
use Rattle.json_render.specs.declared.templates.Slot.{Slot}
use Rattle.json_render.specs.declared.templates.Template.{Template}

-- the name of a type as it is written
abbrev pub type_word : TypeName → List ℕ
type_word TypeName.Int64 = codes "Int64"
type_word TypeName.Decimal = codes "Decimal"
type_word TypeName.Date = codes "Date"

-- ---- what stands in an instance

-- what stands at the prefix at this place
abbrev pub bound_at : Instance → ℕ → Option Entity
bound_at i k = option_and_then (λ x. x.1) (slice_get i.prefixes k)

-- the value of the column at this place
abbrev pub column_in : Instance → ℕ → Value
column_in i k = unwrap_or (option_map (λ c. c.1) (slice_get i.columns k)) Value.Null

-- the value in a slot; null where there is none
abbrev pub slot_value : World → Instance → Slot → Value
slot_value w i (Slot.Column k) = column_in i k
slot_value w i (Slot.Property k p) = unwrap_or (option_map (λ e. property w e p) (bound_at i k)) Value.Null

-- a prefix with the set of its entity, if it has one
abbrev pub prefix_set : Path × Option Entity → Path × Option ℕ
prefix_set x = (x.0, option_map (λ e. e.set) x.1)

-- the path of a column
abbrev pub column_path : Path × Value → Path
column_path c = c.0

-- two instances have columns of the same paths, and at the same prefixes entities of the same sets, in the same order
pub record SamePattern (i j : Instance) : Type 0 where
  pub columns : map column_path i.columns ≡ map column_path j.columns
  pub prefixes : map prefix_set i.prefixes ≡ map prefix_set j.prefixes

-- ---- texts

-- a text as a JSON string
abbrev pub text_json : List ℕ → List ℕ
text_json t = compact_text (string t)

-- a value as JSON
abbrev pub value_text : Value → List ℕ
value_text v = compact_text (value_json v)

-- a member, with a comma where one stands before it
abbrev pub member_text : Bool → Member → List ℕ
member_text later m = comma_if later ++ (text_json m.0 ++ 58 ∷ compact_text m.1)

-- members one after another
abbrev pub members_run : Bool → List Member → List ℕ
members_run later [] = []
members_run later (m ∷ ms) = member_text later m ++ members_run true ms

-- a template with the values of an instance
abbrev pub pieces_text : World → Instance → List Piece → List ℕ
pieces_text w i ps = flat_map (λ p. p.text.items ++ value_text (slot_value w i p.slot)) ps

-- a template with the values of an instance, and what stands behind the last one
abbrev pub template_text : World → Instance → Template → List ℕ
template_text w i t = pieces_text w i t.pieces.items ++ t.tail.items

-- ---- places

-- a prefix of an instance, seen from a place
abbrev pub prefix_seen : Instance → Part → Path → Option (Path × Option Entity)
prefix_seen i (Part.Prefix k) rest = Some (rest, bound_at i k)
prefix_seen i (Part.Column k kind) rest = None
prefix_seen i (Part.Property k p) rest = None

-- a column of an instance, seen from a place
abbrev pub column_seen : Instance → Part → Path → Option (Path × Shown)
column_seen i (Part.Prefix k) rest = None
column_seen i (Part.Column k kind) rest = Some (rest, (column_in i k, option_map type_word kind))
column_seen i (Part.Property k p) rest = None

-- the prefixes of an instance, seen from a place
abbrev pub prefixes_seen : Instance → List NamedPart → List (Path × Option Entity)
prefixes_seen i es = filter_map (λ e. prefix_seen i e.part e.rest) es

-- the columns of an instance, seen from a place
abbrev pub columns_seen : Instance → List NamedPart → List (Path × Shown)
columns_seen i es = filter_map (λ e. column_seen i e.part e.rest) es

-- the members at a place
abbrev pub members_here : World → List (Path × Option Entity) → List (Path × Shown) → List Member
members_here w ps cs = members_at (max (depth_of ps) (depth_of cs)) w ps cs

-- the members at the place of these parts
abbrev pub place_members : World → Instance → List NamedPart → List Member
place_members w i es = members_here w (prefixes_seen i es) (columns_seen i es)

-- the place of a prefix that ends here
abbrev pub ended_prefix : Part → Path → Option ℕ
ended_prefix (Part.Prefix k) rest = if is_here rest then Some k else None
ended_prefix (Part.Column k kind) rest = None
ended_prefix (Part.Property k p) rest = None

-- the place of the prefix that ends at the place of these parts, if there is one
abbrev pub here_place : List NamedPart → Option ℕ
here_place es = find_map (λ e. ended_prefix e.part e.rest) es

-- a property, by its place, of the entity at a prefix
abbrev pub property_part : ℕ → ℕ × Property → NamedPart
property_part k p = record { name = p.1.name; rest = []; part = Part.Property k p.0 }

-- the properties of the type of a set, for the prefix at this place
abbrev pub set_parts : Model → ℕ → ℕ → List NamedPart
set_parts m k s = unwrap_or (option_map (λ t. map (property_part k) (enumerate_from 0 t.properties)) (type_of_set m s)) []

-- the properties of the entity at the prefix at this place
abbrev pub property_parts : World → Instance → ℕ → List NamedPart
property_parts w i k = unwrap_or (option_map (λ e. set_parts w.model k e.set) (bound_at i k)) []

-- the parts that have a member at the place of these parts
abbrev pub parts_at : World → Instance → List NamedPart → List NamedPart
parts_at w i es = next_parts es ++ unwrap_or (option_map (property_parts w i) (here_place es)) []

-- the value that a part shows where its path ends
abbrev pub leaf_seen : World → Instance → Part → Path → Option Shown
leaf_seen w i (Part.Prefix k) rest = None
leaf_seen w i (Part.Column k kind) rest = if is_here rest then Some (column_in i k, option_map type_word kind) else None
leaf_seen w i (Part.Property k p) rest = Some (slot_value w i (Slot.Property k p), None)

-- the value that parts of one name show: the first
abbrev pub group_value : World → Instance → List NamedPart → Option Shown
group_value w i g = find_map (λ e. leaf_seen w i e.part e.rest) g

-- the segment of a name, with these prefixes, columns and members
abbrev pub segment : Name → List (Path × Option Entity) → List (Path × Shown) → List Member → List Member
segment n ps cs ms = if is_empty ps && is_empty cs then [] else (n, if is_bound_to_none ps && is_empty cs then null else object_of ms) ∷ []

-- the segment of a name to which these parts belong
abbrev pub inside_members : World → Instance → Name → List NamedPart → List Member
inside_members w i n es = segment n (prefixes_seen i es) (columns_seen i es) (place_members w i es)

-- the members of parts of one name
abbrev pub group_members : World → Instance → Name → List NamedPart → List Member
group_members w i n g = unwrap_or (option_map (value_members n) (group_value w i g)) [] ++ inside_members w i n (inside_of g)

-- ---- the parts of a row

-- the name of a type that stands beside a dynamic member
abbrev pub type_name : EdmType → Option TypeName
type_name EdmType.Int = Some TypeName.Int64
type_name (EdmType.Dec scale precision) = Some TypeName.Decimal
type_name EdmType.Day = Some TypeName.Date
type_name _ = None

-- the name of the type that is shown beside a column, if the shape has it as dynamic
abbrev pub shown_name : Shape → Path → Option TypeName
shown_name s p = option_and_then (λ c. if c.declared then None else type_name c.kind) (column_at s p)

-- prefixes of these paths, from this place on
abbrev pub prefix_parts : ℕ → List Path → List NamedPart
prefix_parts k [] = []
prefix_parts k (p ∷ ps) = record { name = []; rest = p; part = Part.Prefix k } ∷ prefix_parts (suc k) ps

-- columns of these paths, from this place on
abbrev pub column_parts : Shape → ℕ → List Path → List NamedPart
column_parts s k [] = []
column_parts s k (p ∷ ps) = record { name = []; rest = p; part = Part.Column k (shown_name s p) } ∷ column_parts s (suc k) ps

-- the path of a prefix
abbrev pub prefix_path : Path × Option Entity → Path
prefix_path x = x.0

-- the prefixes and columns of an instance
abbrev pub row_parts : Shape → Instance → List NamedPart
row_parts s i = prefix_parts 0 (map prefix_path i.prefixes) ++ column_parts s 0 (map column_path i.columns)

-- what a leaf shows
abbrev pub leaf_shown : World → Instance → Leaf → Shown
leaf_shown w i l = (slot_value w i l.slot, option_map type_word l.kind)

-- ---- members that are still to be written

-- the members of one that is still to be written
abbrev pub unwritten_members : World → Instance → Unwritten → List Member
unwritten_members w i (Unwritten.Value name kind slot) = value_members name.now (slot_value w i slot, option_map type_word kind)
unwritten_members w i (Unwritten.Null name) = (name.now, null) ∷ []
unwritten_members w i (Unwritten.Object name place) = (name.now, object_of (place_members w i (named_parts place.items))) ∷ []
unwritten_members w i Unwritten.Close = []

-- the members of those that are still to be written
abbrev pub all_members : World → Instance → List Unwritten → List Member
all_members w i us = flat_map (unwritten_members w i) us

-- it is a member, and not the end of an object
abbrev pub is_member : Unwritten → Bool
is_member (Unwritten.Value name kind slot) = true
is_member (Unwritten.Null name) = true
is_member (Unwritten.Object name place) = true
is_member Unwritten.Close = false

-- the text of what is still to be written, the next first
abbrev pub unwritten_text : World → Instance → Bool → List Unwritten → List ℕ
unwritten_text w i later [] = []
unwritten_text w i later (Unwritten.Value name kind slot ∷ us) = members_run later (unwritten_members w i (Unwritten.Value name kind slot)) ++ unwritten_text w i true us
unwritten_text w i later (Unwritten.Null name ∷ us) = members_run later (unwritten_members w i (Unwritten.Null name)) ++ unwritten_text w i true us
unwritten_text w i later (Unwritten.Object name place ∷ us) = members_run later (unwritten_members w i (Unwritten.Object name place)) ++ unwritten_text w i true us
unwritten_text w i later (Unwritten.Close ∷ us) = 125 ∷ unwritten_text w i true us

-- a template, and then what is still to be written, the last of the list first
abbrev pub filled : World → Instance → Template → List Unwritten → List ℕ
filled w i t left = template_text w i t ++ unwritten_text w i t.after_member (reverse left)

-- the members of parts of one name, which the first has
abbrev pub first_members : World → Instance → List NamedPart → List Member
first_members w i [] = []
first_members w i (e ∷ es) = group_members w i e.name (e ∷ es)
