use Rattle.std.proofs.Common.{◌≡◌, map, drop}
use Rattle.apply_ast.specs.Views.{pipe_of, pipes_from, pipes_of}
use Rattle.walk_laws.specs.Apart as spec
use Rattle.optimiser.proofs.kinds.kinds_apart.Given as goal

-- the branches that are left decide
abbrev pub invariant-loop-branch : goal.invariant-loop-branch
invariant-loop-branch l = spec.kinds_apart (pipes_of l.branches) (pipes_of l.branches) ≡ spec.kinds_apart (pipes_of l.branches) (pipes_from (map pipe_of (drop l.branch-index l.branch-items)))
