-- Steps put one after the other.
use Rattle.std.proofs.Common.{◌≡◌, refl, ap, List, [], ◌∷◌, ◌++◌}
use Rattle.edm_model.specs.Models.{Model}
use Rattle.apply_ast.specs.Trees.{Expr, Pipe, Step, pipe}
use Rattle.context_typing.specs.Shapes.{Shape}
use Rattle.context_typing.specs.Typing.{Customs, after}
use Rattle.rewrite_laws.proofs.RuleLemmas.{after-filter}
use Rattle.walk_laws.specs.Walks.{Rules, Segment, Test, put_step, put_steps, put_tests, put_filter, settled_step, shape_behind}

pub put_tests-append : (xs ys : List Test) (gs : List Segment) → put_tests (xs ++ ys) gs ≡ put_tests ys (put_tests xs gs)
put_tests-append [] ys gs = refl
put_tests-append (x ∷ xs) ys gs = put_tests-append xs ys _

module _ (r : Rules) (m : Model) (c : Customs) where
  -- one step more
  pub one-step : (S : Shape) (s : Step) (p : Pipe) (gs : List Segment) → put_steps r m c S (Pipe.Then s p) gs ≡ put_steps r m c (after m c S s) p (put_step r m c S s (settled_step r m c S s) gs)
  unfolding put_steps
  one-step S s p gs = refl

  -- a filter and then other steps
  pub one-filter : (S : Shape) (e : Expr) (p : Pipe) (gs : List Segment) → put_steps r m c S (Pipe.Then (Step.Filter e) p) gs ≡ put_steps r m c S p (put_filter m S e gs)
  unfolding put_steps
  one-filter S e p gs = ap (λ U. put_steps r m c U p (put_filter m S e gs)) (after-filter m c S e)

  -- a filter at the end
  pub filter-ended : (S : Shape) (ss : List Step) (e : Expr) (gs : List Segment) → put_steps r m c S (pipe (ss ++ Step.Filter e ∷ [])) gs ≡ put_filter m (shape_behind m c S (pipe ss)) e (put_steps r m c S (pipe ss) gs)
  unfolding put_steps
  filter-ended S [] e gs = refl
  filter-ended S (s ∷ ss) e gs = filter-ended (after m c S s) ss e (put_step r m c S s (settled_step r m c S s) gs)

  pub shape-ended : (S : Shape) (ss : List Step) (e : Expr) → shape_behind m c S (pipe (ss ++ Step.Filter e ∷ [])) ≡ shape_behind m c S (pipe ss)
  shape-ended S [] e = after-filter m c S e
  shape-ended S (s ∷ ss) e = shape-ended (after m c S s) ss e
