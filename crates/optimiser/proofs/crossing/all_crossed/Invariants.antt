use Rattle.context_typing.specs.Readings.{readings}
use Rattle.optimiser.specs.Plans.{HasPlanOf}
use Rattle.optimiser.proofs.crossing.all_crossed.Given as goal

-- what the filters so far have crossed has the plan
abbrev pub invariant-loop-crossing : goal.invariant-loop-crossing
invariant-loop-crossing l = HasPlanOf l.m (readings l.c) l.t l.current
