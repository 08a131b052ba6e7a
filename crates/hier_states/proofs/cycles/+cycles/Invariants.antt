use Rattle.std.proofs.Common.{◌≡◌, drop, map}
use Rattle.apply_ast.specs.Trees.{pipe}
use Rattle.apply_ast.specs.Views.{key_of, keys_from, keys_of, pipe_of, pipes_from, pipes_of, step_of}
use Rattle.apply_ast.specs.NamedHierarchies.{branch_hierarchies, hierarchies, keys_hierarchies}
use Rattle.hier_states.specs.States.{first_cycle}
use Rattle.hier_states.proofs.cycles.+cycles.Given as goal

-- the first cycle is that of the rest
abbrev pub invariant-cycle_in-loop-step : goal.invariant-cycle_in-loop-step
invariant-cycle_in-loop-step l = first_cycle l.store (hierarchies (pipe_of l.pipe)) ≡ first_cycle l.store (hierarchies (pipe (map step_of (drop l.step-index l.step-items))))

abbrev pub invariant-cycle_in_branches-loop-branch : goal.invariant-cycle_in_branches-loop-branch
invariant-cycle_in_branches-loop-branch l = first_cycle l.store (branch_hierarchies (pipes_of l.branches)) ≡ first_cycle l.store (branch_hierarchies (pipes_from (map pipe_of (drop l.branch-index l.branch-items))))

abbrev pub invariant-cycle_in_keys-loop-key : goal.invariant-cycle_in_keys-loop-key
invariant-cycle_in_keys-loop-key l = first_cycle l.store (keys_hierarchies (keys_of l.keys)) ≡ first_cycle l.store (keys_hierarchies (keys_from (map key_of (drop l.key-index l.key-items))))
