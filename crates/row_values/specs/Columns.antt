-- The columns of a row, out of lists that have their values.
use Rattle.std.specs.Prelude.{ℕ, List, [], ◌∷◌, get_or}
use Rattle.edm_values.specs.declared.Value.{Value}
use Rattle.edm_values.specs.declared.Value.TheVariants.{Null}
use Rattle.edm_values.specs.Names.{Path}

-- the columns of these paths, each with the value that its list has at a place
abbrev pub columns_at : List Path → List (List Value) → ℕ → List (Path × Value)
columns_at [] ls k = []
columns_at (p ∷ ps) [] k = []
columns_at (p ∷ ps) (l ∷ ls) k = (p, get_or l k Null) ∷ columns_at ps ls k
