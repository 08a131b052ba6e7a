-- What stands before filters, and lists of steps, as the code has them.
use Rattle.std.specs.Prelude.{ℕ, Bool, List, drop, map, slice_get}
use Rattle.edm_values.specs.Lists.{is_some_and}
use Rattle.apply_ast.specs.Trees.{Step}
use Rattle.apply_ast.specs.Views.{named_of, step_of}
use Rattle.apply_ast.specs.declared.steps.Step as held
use Rattle.optimiser.specs.declared.resting.Place.{Place}
use Rattle.optimiser.specs.declared.resting.Place.TheVariants as place
use Rattle.std.specs.Global.{Vec}
use Rattle.rewrite_laws.specs.TreeEquality.{step_same}
use Rattle.walk_laws.specs.Factored as spec

-- what stands before a filter
abbrev pub place_of : Place → spec.Place
place_of place.Free = spec.Place.Free
place_of (place.Columns ns) = spec.Place.Columns (map named_of ns.now)
place_of place.Closed = spec.Place.Closed

-- lists of steps
abbrev pub lists_of : List (Vec held.Step) → List (List Step)
lists_of ls = map (λ l. map step_of l.items) ls

-- a step stands at a place of a list
abbrev pub stands_at : Step → ℕ → List Step → Bool
stands_at x k l = is_some_and (step_same x) (slice_get (drop k l) 0)
