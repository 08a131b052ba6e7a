use Rattle.context_typing.specs.Readings.{readings}
use Rattle.optimiser.specs.Plans.{IsBegun}
use Rattle.optimiser.proofs.plans.turns.Given as goal

-- what the turns have reached
abbrev pub invariant-loop-turn : goal.invariant-loop-turn
invariant-loop-turn l = IsBegun l.m (readings l.c) l.t (l.current, l.done)
