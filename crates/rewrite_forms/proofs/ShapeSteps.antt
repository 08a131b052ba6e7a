-- The shape behind steps, one step after another.
use Rattle.std.proofs.Common.{◌≡◌, refl, List, [], ◌∷◌, ◌++◌}
use Rattle.edm_model.specs.Models.{Model}
use Rattle.apply_ast.specs.Trees.{Step}
use Rattle.context_typing.specs.Shapes.{Shape}
use Rattle.context_typing.specs.Typing.{Customs, after}
use Rattle.rewrite_forms.specs.StepShapes.{shape_behind}

module _ (m : Model) (c : Customs) where
  pub behind-more : (S : Shape) (ss : List Step) (s : Step) → shape_behind m c S (ss ++ s ∷ []) ≡ after m c (shape_behind m c S ss) s
  behind-more S [] s = refl
  behind-more S (t ∷ ss) s = behind-more (after m c S t) ss s
