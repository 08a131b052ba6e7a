use Rattle.std.proofs.Common.{◌≡◌, map, drop}
use Rattle.apply_ast.specs.Trees.{pipe}
use Rattle.apply_ast.specs.Views.{pipe_of, pipes_from, pipes_of, step_of}
use Rattle.optimiser.specs.RestForms.{place_of}
use Rattle.walk_laws.specs.Factored as spec
use Rattle.optimiser.proofs.resting.+resting.Given as goal

-- the steps that are left decide
abbrev pub invariant-steps_rest-loop-step : goal.invariant-steps_rest-loop-step
invariant-steps_rest-loop-step l = spec.steps_rest (place_of l.start) (pipe_of l.pipe) ≡ spec.steps_rest (place_of l.place) (pipe (map step_of (drop l.step-index l.step-items)))

-- the branches that are left decide
abbrev pub invariant-branches_rest-loop-branch : goal.invariant-branches_rest-loop-branch
invariant-branches_rest-loop-branch l = spec.branches_rest (place_of l.place) (pipes_of l.branches) ≡ spec.branches_rest (place_of l.place) (pipes_from (map pipe_of (drop l.branch-index l.branch-items)))
