-- Rows one after another, and the templates that are known for them.
use Rattle.std.specs.Prelude.{◌≡◌, ℕ, ◌<◌, Bool, true, List, [], ◌∷◌, ◌++◌, codes, length, slice_get, slice_index_or, Some}
use Rattle.serde_json.specs.Written.{comma_if, compact_text}
use Rattle.edm_data.specs.Worlds.{World}
use Rattle.context_typing.specs.Shapes.{Shape}
use Rattle.apply_meaning.specs.Instances.{Instance, no_instance}
use Rattle.json_render.specs.Bodies.{context, row_json}
use Rattle.json_render.specs.RowTexts.{SamePattern, template_text, text_json}
use Rattle.json_render.specs.declared.body.Known.{Known}

-- a row as JSON
abbrev pub row_text : World → Shape → Instance → List ℕ
row_text w s i = compact_text (row_json w s i)

-- a body up to its rows
abbrev pub head_text : List ℕ → Shape → List ℕ
head_text name s = codes "{\"@context\":" ++ (text_json (context name s) ++ codes ",\"value\":[")

-- rows one after another, with a comma before each but a first one
abbrev pub rows_run : World → Shape → Bool → List Instance → List ℕ
rows_run w s later [] = []
rows_run w s later (i ∷ is) = comma_if later ++ row_text w s i ++ rows_run w s true is

-- a template gives each row of the pattern of its row
pub record IsKnown (w : World) (s : Shape) (rows : List Instance) (k : Known) : Type 0 where
  pub within : k.row < length rows
  pub text : (i : Instance) → SamePattern (slice_index_or rows k.row no_instance) i → template_text w i k.template ≡ row_text w s i

-- the known template at this place gives this row
pub record Serves (w : World) (s : Shape) (i : Instance) (ks : List Known) (at : ℕ) : Type 0 where
  pub within : at < length ks
  pub text : (k : Known) → slice_get ks at ≡ Some k → template_text w i k.template ≡ row_text w s i
