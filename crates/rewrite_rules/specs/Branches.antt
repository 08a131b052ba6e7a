-- What the rules of concatenations ask of branches, and what they make of them.
use Rattle.std.specs.Prelude.{Bool, not, ◌&&◌, List, Option, drop, find, map, option_and_then, option_map, slice_get}
use Rattle.std.specs.Bool.{then_some}
use Rattle.std.specs.List.{list_all}
use Rattle.edm_values.specs.Lists.{is_some_and}
use Rattle.edm_model.specs.Models.{Model}
use Rattle.apply_ast.specs.Trees.{Pipe, Step, steps}
use Rattle.context_typing.specs.Shapes.{Shape}
use Rattle.rewrite_forms.specs.Branches.{is_test_on}
use Rattle.rewrite_laws.specs.Rewrites.{behind, concat, ended, is_identity, movable, pipe_or_identity}
use Rattle.rewrite_laws.specs.TreeEquality.{step_same}

-- the steps after the nearest filter that is a test on these shapes has gone to the end of each branch
abbrev pub into_branches : Model → Shape → List Shape → List Pipe → List Step → Option (List Step)
into_branches m S Ss ps ss = option_map (λ r. behind (concat (map (λ p. ended p (Step.Filter r.last)) ps)) r) (find (λ r. is_test_on m Ss r.last) (movable m S ss))

-- a pipeline begins with a step
abbrev pub begins_with : Step → Pipe → Bool
begins_with x p = is_some_and (step_same x) (slice_get (steps p) 0)

-- the step with which all branches begin, but identity
abbrev pub common_first : List Pipe → Option Step
common_first ps = option_and_then (λ x. then_some (not (is_identity x) && list_all (begins_with x) ps) x) (option_and_then (λ p. slice_get (steps p) 0) (slice_get ps 0))

-- a pipeline without its first step
abbrev pub without_first : Pipe → Pipe
without_first p = pipe_or_identity (drop 1 (steps p))
