use Rattle.std.proofs.Common.{◌≤◌, length}
use Rattle.apply_ast.specs.Views.{step_of}
use Rattle.optimiser.specs.RestForms.{lists_of}
use Rattle.optimiser.proofs.FactorLemmas.{OutUpTo}
use Rattle.optimiser.proofs.factoring.common.Given as goal

-- the steps so far come out
abbrev pub invariant-loop-at : goal.invariant-loop-at
invariant-loop-at l = (l.at ≤ length l.first) × OutUpTo (lists_of l.others) step_of l.first l.at
