-- The items of a context that are still to be written, and their texts.
use Rattle.std.specs.Prelude.{ℕ, ◌+◌, ◌*◌, length, max, ◌&&◌, if◌then◌else◌, Bool, true, false, List, [], ◌∷◌, ◌++◌, flat_map, filter_map, reverse, string_bytes, Option, Some, None}
use Rattle.std.specs.List.{list_any}
use Rattle.serde_json.specs.Written.{comma_if}
use Rattle.edm_values.specs.Names.{Name, Path}
use Rattle.json_render.specs.Bodies.{depth_of_paths, is_empty, items_at, parenthesised}
use Rattle.json_render.specs.Places.{NamedPart, inside_of, is_column, is_ended, named_parts}
use Rattle.json_render.specs.declared.context.Item.{Item}
use Rattle.json_render.specs.declared.context.Text.{Text}
use Rattle.json_render.specs.declared.entries.Part.{Part}

-- ---- places of shapes

-- the rest of the path of a prefix
abbrev pub prefix_rest : Part → Path → Option Path
prefix_rest (Part.Prefix k) rest = Some rest
prefix_rest (Part.Column k kind) rest = None
prefix_rest (Part.Property k p) rest = None

-- the rest of the path of a column
abbrev pub column_rest : Part → Path → Option Path
column_rest (Part.Prefix k) rest = None
column_rest (Part.Column k kind) rest = Some rest
column_rest (Part.Property k p) rest = None

-- the paths of prefixes
abbrev pub prefix_paths : List NamedPart → List Path
prefix_paths es = filter_map (λ e. prefix_rest e.part e.rest) es

-- the paths of columns
abbrev pub column_paths : List NamedPart → List Path
column_paths es = filter_map (λ e. column_rest e.part e.rest) es

-- the items at a place
abbrev pub items_here : List Path → List Path → List (List ℕ)
items_here ps cs = items_at (max (depth_of_paths ps) (depth_of_paths cs)) ps cs

-- the items at the place of these parts
abbrev pub place_items : List NamedPart → List (List ℕ)
place_items es = items_here (prefix_paths es) (column_paths es)

-- a column that ends with the name
abbrev pub ends_column : NamedPart → Bool
ends_column e = is_ended e && is_column e

-- the segment of a name, with these items
abbrev pub segment_items : Name → List Path → List Path → List (List ℕ) → List (List ℕ)
segment_items n ps cs items = if is_empty ps && is_empty cs then [] else (n ++ parenthesised items) ∷ []

-- the segment of a name to which these parts belong
abbrev pub inside_items : Name → List NamedPart → List (List ℕ)
inside_items n es = segment_items n (prefix_paths es) (column_paths es) (place_items es)

-- the items of parts of one name
abbrev pub group_items : Name → List NamedPart → List (List ℕ)
group_items n g = (if list_any ends_column g then n ∷ [] else []) ++ inside_items n (inside_of g)

-- the items of parts of one name, which the first has
abbrev pub first_items : List NamedPart → List (List ℕ)
first_items [] = []
first_items (e ∷ es) = group_items e.name (e ∷ es)

-- ---- items that are still to be written

-- the text of one
abbrev pub item_texts : Item → List (List ℕ)
item_texts (Item.Column name) = name.now ∷ []
item_texts (Item.Segment name place) = (name.now ++ parenthesised (place_items (named_parts place.items))) ∷ []
item_texts Item.Close = []

-- the texts of all
abbrev pub all_items : List Item → List (List ℕ)
all_items xs = flat_map item_texts xs

-- it is an item, and not the end of a segment
abbrev pub is_item : Item → Bool
is_item (Item.Column name) = true
is_item (Item.Segment name place) = true
is_item Item.Close = false

-- items one after another, with a comma before each but a first one
abbrev pub items_run : Bool → List (List ℕ) → List ℕ
items_run later [] = []
items_run later (x ∷ xs) = comma_if later ++ x ++ items_run true xs

-- the text of what is still to be written, the next first
abbrev pub left_text : Bool → List Item → List ℕ
left_text later [] = []
left_text later (Item.Column name ∷ xs) = items_run later (item_texts (Item.Column name)) ++ left_text true xs
left_text later (Item.Segment name place ∷ xs) = items_run later (item_texts (Item.Segment name place)) ++ left_text true xs
left_text later (Item.Close ∷ xs) = 41 ∷ left_text true xs

-- a text, and then what is still to be written, the last of the list first
abbrev pub filled : Text → List Item → List ℕ
filled t left = string_bytes t.bytes ++ left_text t.after_item (reverse left)

-- twice what is still to be written, and one more where no item stands before it
abbrev pub left_steps : Text → List Item → ℕ
left_steps t left = 2 * length (left_text t.after_item (reverse left)) + (if t.after_item then 0 else 1)
