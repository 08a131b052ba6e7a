-- What an expression is on the branches of a concatenation.
use Rattle.std.specs.Prelude.{Bool, List}
use Rattle.std.specs.List.{list_all}
use Rattle.edm_values.specs.Literals.{is_boolean_kind}
use Rattle.edm_model.specs.Models.{Model}
use Rattle.apply_ast.specs.Trees.{Expr}
use Rattle.context_typing.specs.Shapes.{Shape}
use Rattle.context_typing.specs.Typing.{has_kind}

-- an expression is a test on each of these shapes
abbrev pub is_test_on : Model → List Shape → Expr → Bool
is_test_on m Ss b = list_all (λ S. has_kind is_boolean_kind m S b) Ss
