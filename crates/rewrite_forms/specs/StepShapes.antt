-- The shape behind steps.
use Rattle.std.specs.Prelude.{List, [], ◌∷◌}
use Rattle.edm_model.specs.Models.{Model}
use Rattle.apply_ast.specs.Trees.{Step}
use Rattle.context_typing.specs.Shapes.{Shape}
use Rattle.context_typing.specs.Typing.{Customs, after}

-- the shape behind steps
abbrev pub shape_behind : Model → Customs → Shape → List Step → Shape
shape_behind m c S [] = S
shape_behind m c S (s ∷ ss) = shape_behind m c (after m c S s) ss
