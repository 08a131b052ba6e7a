-- The texts of parts of the rows, which threads share.
use Rattle.std.specs.Prelude.{◌≡◌, ◌<◌, ◌++◌, ◌∷◌, [], ℕ, Bool, false, true, Ok, Err, List, IfOk, length, map}
use Rattle.std.specs.declared.result.Result.{Result}
use Rattle.std.specs.Global.{Vec}
use Rattle.std.specs.List.{All, flat_map, list_any}
use Rattle.serde_json.specs.Written.{comma_if}
use Rattle.edm_values.specs.declared.refusals.Refused.{Refused}
use Rattle.edm_values.specs.declared.refusals.Refused.TheVariants as refused
use Rattle.edm_data.specs.Worlds.{World}
use Rattle.context_typing.specs.Shapes.{Shape}
use Rattle.apply_meaning.specs.Instances.{Instance}
use Rattle.json_render.specs.Bodies.{has_beyond}
use Rattle.json_render.specs.RowRuns.{rows_run}

-- what rendering these rows comes to: their text with a comma between, or that one of them is past its range
pub record IsPartText (w : World) (s : Shape) (rows : List Instance) (r : Result (Vec ℕ) Refused) : Type 0 where
  pub ok : IfOk r (λ b. b.items ≡ rows_run w s false rows)
  pub in_range : IfOk r (λ b. list_any has_beyond rows ≡ false)
  pub range : r ≡ Err refused.Range → list_any has_beyond rows ≡ true

-- parts of the rows, each with a row, one behind the other
pub record AreParts (rows : List Instance) (parts : List (List Instance)) : Type 0 where
  pub some : All (λ part. 0 < length part) parts
  pub all : flat_map (λ part. part) parts ≡ rows

-- one of the results, and none before it, is not there, since a value is past its range
abbrev pub HasPast : List (Result (Vec ℕ) Refused) → Type 0
HasPast rs = (ls : List (Vec ℕ)) × (rest : List (Result (Vec ℕ) Refused)) × (rs ≡ map Ok ls ++ Err refused.Range ∷ rest)

-- texts one after another, with a comma before each but a first one
abbrev pub texts_run : Bool → List (Vec ℕ) → List ℕ
texts_run later [] = []
texts_run later (l ∷ ls) = comma_if later ++ (l.items ++ texts_run true ls)
