use Rattle.std.proofs.Common.{◌≡◌, map, drop}
use Rattle.apply_ast.specs.Trees.{pipe}
use Rattle.apply_ast.specs.Views.{pipe_of, step_of}
use Rattle.walk_laws.specs.Apart as spec
use Rattle.optimiser.proofs.kinds.never_first.Given as goal

-- the steps that are left decide
abbrev pub invariant-loop-there : goal.invariant-loop-there
invariant-loop-there l = spec.never_first (spec.kind_of (step_of l.step)) (pipe_of l.pipe) ≡ spec.never_first (spec.kind_of (step_of l.step)) (pipe (map step_of (drop l.there-index l.there-items)))
