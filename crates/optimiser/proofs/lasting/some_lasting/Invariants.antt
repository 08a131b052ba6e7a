use Rattle.std.proofs.Common.{◌≡◌, map, drop}
use Rattle.apply_ast.specs.Views.{pipe_of, pipes_from, pipes_of}
use Rattle.walk_laws.specs.FiltersOut as spec
use Rattle.optimiser.proofs.lasting.some_lasting.Given as goal

-- the branches that are left decide
abbrev pub invariant-loop-branch : goal.invariant-loop-branch
invariant-loop-branch l = spec.some_lasting (pipes_of l.branches) (pipes_of l.branches) ≡ spec.some_lasting (pipes_of l.branches) (pipes_from (map pipe_of (drop l.branch-index l.branch-items)))
