use Rattle.context_typing.specs.Readings.{readings}
use Rattle.optimiser.specs.Plans.{HasPlanOf}
use Rattle.optimiser.proofs.plans.rounded.Given as goal

-- what the rounds so far have made has the plan
abbrev pub invariant-loop-round : goal.invariant-loop-round
invariant-loop-round l = HasPlanOf l.m (readings l.c) l.t l.current
