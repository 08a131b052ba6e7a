-- Filters that cross concatenations, by the forms that the code has.
use Rattle.std.specs.Prelude.{◌≡◌, Bool, false, ◌&&◌, List, ◌∷◌, ◌++◌, IsTrue, map}
use Rattle.std.specs.List.{list_all}
use Rattle.edm_model.specs.Models.{Model}
use Rattle.apply_ast.specs.Trees.{Expr, Step, pipe}
use Rattle.apply_ast.specs.Views.{step_of}
use Rattle.context_typing.specs.Shapes.{Shape}
use Rattle.context_typing.specs.ShapeTypes.{has_types}
use Rattle.context_typing.specs.Typing.{Customs}
use Rattle.walk_laws.specs.Crossing.{all_cross, is_sure_test, sure_test}
use Rattle.walk_laws.specs.Factored.{is_one}
use Rattle.walk_laws.specs.Walks.{shape_behind}
use Rattle.optimiser.specs.HeldSegments.{passes}
use Rattle.optimiser.specs.declared.crossing.Crossing.{Crossing}
use Rattle.optimiser.specs.declared.crossing.Way.{Way}

-- a sure filter passes the steps of a branch, at the end of which it is sure
abbrev pub goes : Model → Expr → Way → Bool
goes m e w = list_all (λ p. passes p (sure_test e)) w.passages.items && is_sure_test m w.end e

-- a step is a filter that is sure, and goes so through all branches
abbrev pub crosses_by : Model → Shape → List Way → Step → Bool
crosses_by m S ws (Step.Filter e) = is_one e && is_sure_test m S e && list_all (goes m e) ws
crosses_by m S ws s = false

-- the shapes at the ends of branches are of the model
abbrev pub ways_typed : Model → List Way → Bool
ways_typed m ws = list_all (λ w. has_types m w.end) ws

-- all steps
abbrev pub whole_of : Crossing → List Step
whole_of x = map step_of x.before.now ++ step_of x.concat.now ∷ (map step_of x.filters.now ++ map step_of x.behind.now)

-- with the filters before the concatenation
abbrev pub moved : Crossing → List Step
moved x = map step_of x.before.now ++ (map step_of x.filters.now ++ step_of x.concat.now ∷ map step_of x.behind.now)

-- steps have filters that cross a concatenation
pub record IsCrossing (m : Model) (c : Customs) (S : Shape) (ss : List Step) (x : Crossing) : Type 0 where
  pub whole : ss ≡ whole_of x
  pub cross : IsTrue (all_cross m c (shape_behind m c S (pipe (map step_of x.before.now))) (step_of x.concat.now) (map step_of x.filters.now))
