-- What a filter must meet to pass a step or to go into it, and the steps after it has.
use Rattle.std.specs.Prelude.{ℕ, suc, Bool, true, not, ◌&&◌, IsTrue, List, ◌∷◌, ◌++◌, Option, length, map, option_map, take, drop, find}
use Rattle.std.specs.List.{list_any, list_all}
use Rattle.edm_values.specs.Lists.{is_nonempty}
use Rattle.edm_values.specs.Literals.{is_boolean_kind}
use Rattle.edm_model.specs.Models.{Model}
use Rattle.apply_ast.specs.Trees.{Expr, Named, Step}
use Rattle.apply_ast.specs.Views.{named_of}
use Rattle.context_typing.specs.Paths.{begins}
use Rattle.context_typing.specs.Shapes.{Shape}
use Rattle.context_typing.specs.ShapeTypes.{has_types}
use Rattle.context_typing.specs.Typing.{has_kind, is_sure}
use Rattle.rewrite_forms.specs.Columns.{new_paths}
use Rattle.rewrite_rules.specs.declared.filters.Condition.{Condition}
use Rattle.rewrite_rules.specs.declared.filters.Condition.TheVariants as condition
use Rattle.rewrite_laws.specs.Rewrites.{FilterRun, is_among, movable, on_node, over, paths}

-- no path of an expression is a column that a computation makes
abbrev pub names_none : List Named → Expr → Bool
names_none ns b = not (list_any (is_among (new_paths ns)) (paths b))

-- the shapes of a condition are of the model
abbrev pub IsRight : Model → Condition → Type 0
IsRight m (condition.TypedOn shapes) = IsTrue (list_all (has_types m) shapes.now)
IsRight m (condition.OnNodes ps k nodes) = IsTrue (has_types m nodes.now)
IsRight m _ = Unit {0}

-- an expression meets a condition, on the shape behind the step
abbrev pub meets : Model → Shape → Condition → Expr → Bool
meets m S condition.Any b = true
meets m S (condition.NamesNone ns) b = names_none (map named_of ns.now) b
meets m S condition.Sure b = is_sure m S b
meets m S (condition.SureOver ps) b = over ps.now b && is_sure m S b
meets m S (condition.SureOutside a) b = not (list_any (begins a.now) (paths b)) && is_sure m S b
meets m S (condition.Outside a) b = not (list_any (begins a.now) (paths b))
meets m S (condition.Inside a) b = is_nonempty (paths b) && list_all (begins a.now) (paths b)
meets m S (condition.TypedOn shapes) b = list_all (λ S'. has_kind is_boolean_kind m S' b) shapes.now
meets m S (condition.OnNodes ps k nodes) b =
    is_nonempty (paths b) && over ps.now b && is_sure m S b && has_kind is_boolean_kind m nodes.now (on_node k.now b) && is_sure m nodes.now (on_node k.now b)

-- how many filters stand before the last of a run, and what the last one tests
abbrev pub place_and_filter : FilterRun → ℕ × Expr
place_and_filter r = (length r.between, r.last)

-- the nearest filter behind a step that may pass those before it and meets the condition
abbrev pub nearest : Model → Shape → (Expr → Bool) → List Step → Option (ℕ × Expr)
nearest m S test ss = option_map place_and_filter (find (λ r. test r.last) (movable m S ss))

-- the steps after the filter behind k others has passed the step
abbrev pub moved : Step → List Step → ℕ → List Step
moved x ss k = take 1 (drop k ss) ++ x ∷ take k ss ++ drop (suc k) ss

-- the steps after the filter behind k others has gone into a step, which it made another
abbrev pub entered : Step → List Step → ℕ → List Step
entered x ss k = x ∷ take k ss ++ drop (suc k) ss
