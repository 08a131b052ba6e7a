-- Response bodies (JSON Format 4.01, "Control Information", "Structural Property" and "Collection of Entities"), in this profile's exact form.
use Rattle.std.specs.Prelude.{ℕ, zero, suc, ◌&&◌, Bool, true, false, not, if◌then◌else◌, List, [], ◌∷◌, ◌++◌, length, map, max, fold, filter, flat_map, filter_map, find, codes, Option, Some, None, option_map, option_and_then, unwrap_or, is_none}
use Rattle.std.specs.List.{list_any, join_with_byte, enumerate_from}
use Rattle.serde_json.specs.Data.{Data, null, boolean, string}
use Rattle.serde_json.specs.Written.{compact_text}
use Rattle.edm_values.specs.Lists.{same_text, in_byte_order}
use Rattle.edm_values.specs.declared.Value.{Value}
use Rattle.edm_values.specs.declared.EdmType.{EdmType}
use Rattle.edm_data.specs.Worlds.{World, Entity}
use Rattle.edm_values.specs.Values.{is_beyond}
use Rattle.edm_values.specs.Literals.{plain_text}
use Rattle.edm_model.specs.JsonTrees.{Member, object_of, array_of}
use Rattle.edm_model.specs.LookUps.{type_of_set}
use Rattle.edm_data.specs.References.{property}
use Rattle.edm_values.specs.Names.{Path}
use Rattle.apply_meaning.specs.Instances.{Instance}
use Rattle.context_typing.specs.Shapes.{Shape}
use Rattle.context_typing.specs.Paths.{same_path}
use Rattle.context_typing.specs.Typing.{all_prefixes}

-- ---- lists by path, seen from a place: a path that has ended there is empty

-- the path has ended
abbrev pub is_here : Path → Bool
is_here [] = true
is_here (n ∷ rest) = false

-- the first name of a path that has not ended
abbrev pub first_names : Path → List (List ℕ)
first_names [] = []
first_names (n ∷ rest) = n ∷ []

-- the path after this segment
abbrev pub after_segment : List ℕ → Path → Option Path
after_segment name [] = None
after_segment name (n ∷ rest) = if same_text n name then Some rest else None

-- the entries under a segment, seen from there
abbrev pub under : {X : Type 0} → List ℕ → List (Path × X) → List (Path × X)
under name xs = filter_map (λ x. option_map (λ rest. (rest, x.1)) (after_segment name x.0)) xs

-- what stands at this very place
abbrev pub here : {X : Type 0} → List (Path × X) → Option X
here xs = option_map (λ x. x.1) (find (λ x. is_here x.0) xs)

-- the entries that stand further on
abbrev pub further : {X : Type 0} → List (Path × X) → List (Path × X)
further xs = filter (λ x. not (is_here x.0)) xs

-- the list has no element
abbrev pub is_empty : {X : Type 0} → List X → Bool
is_empty [] = true
is_empty (x ∷ xs) = false

-- the first names of all paths
abbrev pub names_of : {X : Type 0} → List (Path × X) → List (List ℕ)
names_of xs = flat_map (λ x. first_names x.0) xs

-- more segments than any of the paths has
abbrev pub depth_of : {X : Type 0} → List (Path × X) → ℕ
depth_of xs = fold (λ d x. max d (suc (length x.0))) 1 xs

-- ---- the context URL (OData Protocol 4.01, section 10)

-- the paths of the prefixes, the root's the empty one
abbrev pub shape_prefixes : Shape → List Path
shape_prefixes s = map (λ x. x.path) (all_prefixes s)

-- the paths of the columns
abbrev pub shape_columns : Shape → List Path
shape_columns s = map (λ c. c.path) s.columns

-- the paths under a segment, seen from there
abbrev pub paths_under : List ℕ → List Path → List Path
paths_under name ps = filter_map (after_segment name) ps

-- the paths that go on
abbrev pub going_on : List Path → List Path
going_on ps = filter (λ p. not (is_here p)) ps

-- more segments than any of the paths has
abbrev pub depth_of_paths : List Path → ℕ
depth_of_paths ps = fold (λ d p. max d (suc (length p))) 1 ps

-- items in parentheses, with a comma between
abbrev pub parenthesised : List (List ℕ) → List ℕ
parenthesised items = 40 ∷ join_with_byte 44 items ++ 41 ∷ []

-- the items at a place, at most d segments deep: `*` for an entity, and then by byte order each column's name and each segment with its own items
abbrev pub items_at : ℕ → List Path → List Path → List (List ℕ)
items_at zero prefixes columns = []
items_at (suc d) prefixes columns =
    (if list_any is_here prefixes then codes "*" ∷ [] else [])
    ++ flat_map (λ n. (if list_any is_here (paths_under n columns) then n ∷ [] else [])
    ++ (if is_empty (paths_under n prefixes) && is_empty (going_on (paths_under n columns)) then [] else (n ++ parenthesised (items_at d (paths_under n prefixes) (going_on (paths_under n columns)))) ∷ []))
    (in_byte_order (flat_map first_names prefixes ++ flat_map first_names columns))

-- the items of a shape, seen from the root
abbrev pub shape_items : Shape → List (List ℕ)
shape_items s = items_at (max (depth_of_paths (shape_prefixes s)) (depth_of_paths (shape_columns s))) (shape_prefixes s) (shape_columns s)

-- the set's name, and the items where the shape has more than the root
abbrev pub context : List ℕ → Shape → List ℕ
context set_name s = codes "$metadata#" ++ set_name ++ (if is_empty s.prefixes && is_empty s.columns then [] else parenthesised (shape_items s))

-- ---- values (JSON Format 4.01, section 7.1, with IEEE754Compatible=true)

-- numbers and days are strings
abbrev pub value_json : Value → Data
value_json Value.Null = null
value_json (Value.Bool b) = boolean b
value_json v = string (plain_text v)

-- the type that stands beside a dynamic member (JSON Format 4.01, "Control Information: type")
abbrev pub type_text : EdmType → Option (List ℕ)
type_text EdmType.Int = Some (codes "Int64")
type_text (EdmType.Dec scale precision) = Some (codes "Decimal")
type_text EdmType.Day = Some (codes "Date")
type_text _ = None

-- a value, and the type's text where it is shown
abbrev pub Shown : Type 0
Shown = Value × Option (List ℕ)

-- the type that is shown beside a column, if the shape has it as dynamic
abbrev pub shown_type : Shape → Path → Option (List ℕ)
shown_type s p = option_and_then (λ c. if c.declared then None else type_text c.kind) (find (λ c. same_path c.path p) s.columns)

-- the columns of an instance, each with the type that is shown
abbrev pub shown_columns : Shape → Instance → List (Path × Shown)
shown_columns s i = map (λ c. (c.0, (c.1, shown_type s c.0))) i.columns

-- the member that names the type, where it is shown
abbrev pub type_members : List ℕ → Option (List ℕ) → List Member
type_members name None = []
type_members name (Some t) = (name ++ codes "@type", string t) ∷ []

-- the type's member first, where it is shown
abbrev pub value_members : List ℕ → Shown → List Member
value_members name v = type_members name v.1 ++ (name, value_json v.0) ∷ []

-- ---- rows

-- the properties of an entity, by name
abbrev pub entity_properties : World → Entity → List (Path × Shown)
entity_properties w e = unwrap_or (option_map (λ t. map (λ p. (p.1.name ∷ [], (property w e p.0, None))) (enumerate_from 0 t.properties)) (type_of_set w.model e.set)) []

-- the properties of the entity at this place, where it is not none
abbrev pub properties_here : World → List (Path × Option Entity) → List (Path × Shown)
properties_here w prefixes = unwrap_or (option_map (entity_properties w) (option_and_then (λ e. e) (here prefixes))) []

-- the prefix at this place is bound to none
abbrev pub is_bound_to_none : List (Path × Option Entity) → Bool
is_bound_to_none prefixes = unwrap_or (option_map (λ e. is_none e) (here prefixes)) false

-- the members at a place, at most d segments deep, by byte order of names: a column takes the place of the property of its name, and a segment is an object, or null where its prefix is bound to none and no column stands below
abbrev pub members_at : ℕ → World → List (Path × Option Entity) → List (Path × Shown) → List Member
members_at zero w prefixes columns = []
members_at (suc d) w prefixes columns =
    flat_map (λ n. unwrap_or (option_map (value_members n) (here (under n (columns ++ properties_here w prefixes)))) []
    ++ (if is_empty (under n prefixes) && is_empty (further (under n columns)) then []
    else (n, if is_bound_to_none (under n prefixes) && is_empty (further (under n columns)) then null else object_of (members_at d w (under n prefixes) (further (under n columns)))) ∷ []))
    (in_byte_order (names_of prefixes ++ names_of columns ++ names_of (properties_here w prefixes)))

-- an instance as a JSON object
abbrev pub row_json : World → Shape → Instance → Data
row_json w s i = object_of (members_at (max (depth_of i.prefixes) (depth_of (shown_columns s i))) w i.prefixes (shown_columns s i))

-- ---- bodies

-- a response body as a JSON object (JSON Format 4.01, "Collection of Entities")
abbrev pub body_json : World → List ℕ → Shape → List Instance → Data
body_json w set_name s rows = object_of ((codes "@context", string (context set_name s)) ∷ (codes "value", array_of (map (row_json w s) rows)) ∷ [])

-- a column of the instance is past its range
abbrev pub has_beyond : Instance → Bool
has_beyond i = list_any (λ c. is_beyond c.1) i.columns

-- the body's bytes; none where a value to be printed is `Beyond`
abbrev pub body : World → List ℕ → Shape → List Instance → Option (List ℕ)
body w set_name s rows = if list_any has_beyond rows then None else Some (compact_text (body_json w set_name s rows))
