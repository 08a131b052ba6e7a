-- Filters that cross a concatenation: each goes into all branches, to the front of each, and out of all of them.
use Rattle.std.specs.Prelude.{Bool, true, false, ◌&&◌, List}
use Rattle.std.specs.List.{list_all}
use Rattle.edm_values.specs.Literals.{is_boolean_kind}
use Rattle.edm_model.specs.Models.{Model}
use Rattle.apply_ast.specs.Trees.{Expr, Pipe, Pipes, Step}
use Rattle.context_typing.specs.Shapes.{Shape}
use Rattle.context_typing.specs.Typing.{Customs, after, has_kind, is_sure}
use Rattle.rewrite_laws.specs.Rewrites.{branches}
use Rattle.walk_laws.specs.Factored.{is_one}
use Rattle.walk_laws.specs.FiltersOut.{gives_alone}
use Rattle.walk_laws.specs.Walks.{All, Test, step_lets, step_passed}

-- an expression is a filter on a shape, and sure there
abbrev pub is_sure_test : Model → Shape → Expr → Bool
is_sure_test m S e = has_kind is_boolean_kind m S e && is_sure m S e

-- a sure filter
abbrev pub sure_test : Expr → Test
sure_test e = record { expr = e; sure = true }

-- a sure filter passes a step
abbrev pub step_crossed : Model → Customs → Shape → Step → Expr → Bool
step_crossed m c S Step.Identity e = true
step_crossed m c S s e = step_lets m c S s && step_passed All s (sure_test e)

-- a filter that is sure at the end of a branch passes all of its steps
abbrev pub branch_crossed : Model → Customs → Shape → Pipe → Expr → Bool
branch_crossed m c S Pipe.End e = is_sure_test m S e
branch_crossed m c S (Pipe.Then s p) e = step_crossed m c S s e && branch_crossed m c (after m c S s) p e

-- a filter that is not split crosses branches: it is sure before them, and passes all steps of each
abbrev pub crosses : Model → Customs → Shape → Pipes → Step → Bool
crosses m c S ps (Step.Filter e) = is_one e && is_sure_test m S e && list_all (λ p. branch_crossed m c S p e) (branches ps)
crosses m c S ps s = false

-- steps are filters that cross a concatenation which gives nothing but filters
abbrev pub all_cross : Model → Customs → Shape → Step → List Step → Bool
all_cross m c S (Step.Concat ps) fs = gives_alone true (Step.Concat ps) && list_all (crosses m c S ps) fs
all_cross m c S s fs = false
