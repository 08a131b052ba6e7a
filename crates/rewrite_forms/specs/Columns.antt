-- The columns that a computation makes.
use Rattle.std.specs.Prelude.{List, [], ◌∷◌, map}
use Rattle.edm_values.specs.Names.{Path}
use Rattle.apply_ast.specs.Trees.{Named}

-- the paths of the columns that a computation makes
abbrev pub new_paths : List Named → List Path
new_paths ns = map (λ x. x.name ∷ []) ns
