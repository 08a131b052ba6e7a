use Rattle.std.proofs.Common.{◌≡◌, map, drop}
use Rattle.apply_ast.specs.Trees.{pipe}
use Rattle.apply_ast.specs.Views.{key_of, keys_from, keys_of, pipe_of, pipes_from, pipes_of, step_of}
use Rattle.walk_laws.specs.Apart as spec
use Rattle.optimiser.proofs.apart.+apart.Given as goal

-- the steps that are left decide
abbrev pub invariant-stays_apart-loop-step : goal.invariant-stays_apart-loop-step
invariant-stays_apart-loop-step l = spec.stays_apart (pipe_of l.pipe) ≡ spec.stays_apart (pipe (map step_of (drop l.step-index l.step-items)))

-- the keys that are left decide
abbrev pub invariant-keys_apart-loop-key : goal.invariant-keys_apart-loop-key
invariant-keys_apart-loop-key l = spec.keys_apart (keys_of l.keys) ≡ spec.keys_apart (keys_from (map key_of (drop l.key-index l.key-items)))

-- the branches that are left decide
abbrev pub invariant-branches_apart-loop-branch : goal.invariant-branches_apart-loop-branch
invariant-branches_apart-loop-branch l = spec.branches_apart (pipes_of l.branches) ≡ spec.branches_apart (pipes_from (map pipe_of (drop l.branch-index l.branch-items)))
