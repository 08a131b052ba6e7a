use Rattle.std.proofs.Common.{◌≡◌, true, map, drop}
use Rattle.apply_ast.specs.Trees.{pipe}
use Rattle.apply_ast.specs.Views.{key_of, keys_from, keys_of, pipe_of, pipes_from, pipes_of, step_of}
use Rattle.walk_laws.specs.FiltersOut as spec
use Rattle.optimiser.proofs.anywhere.+anywhere.Given as goal

-- the steps that are left decide
abbrev pub invariant-gives_anywhere-loop-step : goal.invariant-gives_anywhere-loop-step
invariant-gives_anywhere-loop-step l = spec.gives_anywhere (pipe_of l.pipe) ≡ spec.gives_anywhere (pipe (map step_of (drop l.step-index l.step-items)))

-- the branches that are left decide
abbrev pub invariant-all_give-loop-branch : goal.invariant-all_give-loop-branch
invariant-all_give-loop-branch l = spec.branches_give true (pipes_of l.branches) ≡ spec.branches_give true (pipes_from (map pipe_of (drop l.branch-index l.branch-items)))

-- the keys that are left decide
abbrev pub invariant-keys_give-loop-key : goal.invariant-keys_give-loop-key
invariant-keys_give-loop-key l = spec.keys_give (keys_of l.keys) ≡ spec.keys_give (keys_from (map key_of (drop l.key-index l.key-items)))
