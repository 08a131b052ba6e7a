use Rattle.std.proofs.Common.{◌≡◌, ◌++◌, map, drop, take}
use Rattle.apply_ast.specs.Trees.{pipe}
use Rattle.apply_ast.specs.Views.{pipe_of, step_of}
use Rattle.optimiser.specs.RestForms.{lists_of}
use Rattle.walk_laws.specs.Factored as spec
use Rattle.optimiser.proofs.factoring.+factored.Given as goal

-- what came out so far, and what comes out of the steps that are left
abbrev pub invariant-factored_steps-loop-step : goal.invariant-factored_steps-loop-step
invariant-factored_steps-loop-step l = spec.factored_steps (pipe_of l.pipe) ≡ map step_of l.made.items ++ spec.factored_steps (pipe (map step_of (drop l.step-index l.step-items)))

-- what came out of the branches so far
abbrev pub invariant-factored_branches-loop-branch : goal.invariant-factored_branches-loop-branch
invariant-factored_branches-loop-branch l = lists_of l.lists.items ≡ map (λ p. spec.factored_steps (pipe_of p)) (take l.branch-index l.branch-items)
