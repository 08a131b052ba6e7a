-- Rows of columns that are given.
use Rattle.std.specs.Prelude.{ℕ, List, get_or, map}
use Rattle.std.specs.Global.{Vec}
use Rattle.edm_values.specs.declared.Value.{Value}
use Rattle.edm_values.specs.Names.{Path}
use Rattle.apply_meaning.specs.Instances.{Instance, extended, no_instance}

-- the paths of columns, each with its values
abbrev pub given : List (Path × Vec Value) → List (Path × List Value)
given cs = map (λ c. (c.0, c.1.items)) cs

-- the instance without an entity that has what stands at a place of each column
abbrev pub row_across : List (Path × List Value) → ℕ → Instance
row_across cs k = record no_instance { columns = map (λ c. (c.0, get_or c.1 k Value.Null)) cs }

-- the instance at a place of a list with what stands at this place of each column
abbrev pub widened : List (Path × List Value) → List Instance → ℕ → Instance
widened cs l k = extended (get_or l k no_instance) (row_across cs k).columns
