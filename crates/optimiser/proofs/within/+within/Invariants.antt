use Rattle.std.proofs.Common.{◌≡◌, ◌++◌, map, drop, take}
use Rattle.apply_ast.specs.Trees.{pipe}
use Rattle.apply_ast.specs.Views.{key_of, pipe_of, step_of}
use Rattle.optimiser.specs.RestForms.{lists_of}
use Rattle.walk_laws.specs.Factored as spec
use Rattle.optimiser.proofs.within.+within.Given as goal

-- what came out so far, and what comes out of the steps that are left
abbrev pub invariant-inside_steps-loop-step : goal.invariant-inside_steps-loop-step
invariant-inside_steps-loop-step l = spec.inside_steps (pipe_of l.pipe) ≡ map step_of l.made.items ++ spec.inside_steps (pipe (map step_of (drop l.step-index l.step-items)))

-- what came out of the branches so far
abbrev pub invariant-inside_branches-loop-branch : goal.invariant-inside_branches-loop-branch
invariant-inside_branches-loop-branch l = lists_of l.lists.items ≡ map (λ p. spec.inside_steps (pipe_of p)) (take l.branch-index l.branch-items)

-- what was made of the keys so far
abbrev pub invariant-inside_keys-loop-key : goal.invariant-inside_keys-loop-key
invariant-inside_keys-loop-key l = map key_of l.made.items ≡ map (λ k. spec.inside_key (key_of k)) (take l.key-index l.key-items)
