-- Numbers in place of texts that are kept once each.
use Rattle.std.specs.Prelude.{◌≡◌, ℕ, ◌≤◌, List, Option, None, Some, length, map}
use Rattle.edm_values.specs.declared.Value.{Value}
use Rattle.edm_values.specs.Values.{value_in}
use Rattle.edm_data.specs.LinkLists.{LinkList, link_in}
use Rattle.edm_data.specs.NumberedTexts.{NumberedList, numbered_values}
use Rattle.row_frames.specs.Frames.{place_in, value_at}
use Rattle.row_frames.specs.declared.tables.Pick.{Pick}
use Rattle.row_frames.specs.declared.tables.Table.{Table}

-- the number of a value: that of a text is its place among the texts that occur, and that of null is how many these are
pub record IsTextCode (pool : List (List ℕ)) (v : Value) (c : ℕ) : Type 0 where
  pub value : v ≡ value_in (map Value.Text pool) c
  pub within : c ≤ length pool

-- the place of the entity that has a property: that of the row's entity, or of what this refers to
abbrev pub place_behind : Option LinkList → ℕ → Option ℕ
place_behind None k = Some k
place_behind (Some links) k = link_in links k

-- the value of the property in a row of a table, of the values of a set's entities
abbrev pub value_there : Table → List Value → Option LinkList → Pick → Value
value_there t values links x = value_at values (place_behind links (place_in t.roots x.row))

-- the number of the text in a row of a table, or of null
abbrev pub IsCodeThere : Table → NumberedList → Option LinkList → Pick → ℕ → Type 0
IsCodeThere t texts links x = IsTextCode texts.pool (value_there t (numbered_values texts) links x)
