use Rattle.std.proofs.Common.{◌≡◌, map, drop}
use Rattle.apply_ast.specs.Trees.{pipe}
use Rattle.apply_ast.specs.Views.{pipe_of, step_of}
use Rattle.walk_laws.specs.Apart as spec
use Rattle.optimiser.proofs.apart.leads_to.Given as goal

-- the steps that are left decide
abbrev pub invariant-loop-there : goal.invariant-loop-there
invariant-loop-there l = spec.leads_to (step_of l.step) (pipe_of l.pipe) ≡ spec.leads_to (step_of l.step) (pipe (map step_of (drop l.there-index l.there-items)))
