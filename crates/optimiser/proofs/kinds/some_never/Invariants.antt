use Rattle.std.proofs.Common.{◌≡◌, map, drop}
use Rattle.apply_ast.specs.Views.{pipe_of, pipes_from, pipes_of, step_of}
use Rattle.walk_laws.specs.Apart as spec
use Rattle.optimiser.proofs.kinds.some_never.Given as goal

-- the branches that are left decide
abbrev pub invariant-loop-branch : goal.invariant-loop-branch
invariant-loop-branch l = spec.some_never (spec.kind_of (step_of l.step)) (pipes_of l.branches) ≡ spec.some_never (spec.kind_of (step_of l.step)) (pipes_from (map pipe_of (drop l.branch-index l.branch-items)))
