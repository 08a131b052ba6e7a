use Rattle.std.proofs.Common.{◌≡◌, map, drop}
use Rattle.apply_ast.specs.Trees.{pipe}
use Rattle.apply_ast.specs.Views.{pipe_of, step_of}
use Rattle.walk_laws.specs.FiltersOut as spec
use Rattle.optimiser.proofs.lasting.lasts.Given as goal

-- the steps that are left decide
abbrev pub invariant-loop-step : goal.invariant-loop-step
invariant-loop-step l = spec.lasts (pipe_of l.pipe) ≡ spec.lasts (pipe (map step_of (drop l.step-index l.step-items)))
