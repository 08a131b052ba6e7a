use Rattle.std.proofs.Common.{take}
use Rattle.context_typing.specs.Readings.{readings}
use Rattle.optimiser.proofs.PlanSteps.{NoneOf}
use Rattle.optimiser.proofs.rewriting.first_of.Given as goal

-- none of the rules so far applies
abbrev pub invariant-loop-rule : goal.invariant-loop-rule
invariant-loop-rule l = NoneOf l.m (readings l.c) l.t (take l.rule-index l.among)
