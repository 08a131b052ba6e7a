use Rattle.apply_ast.specs.Views.{pipe_of}
use Rattle.context_typing.specs.Readings.{readings}
use Rattle.context_typing.specs.Typing.{shape_of_set}
use Rattle.rewrite_laws.proofs.PlanEnds.{rewrites_left}
use Rattle.optimiser.specs.Plans.{IsTurned}
use Rattle.optimiser.proofs.plans.planned.Given as goal

-- what the turns have reached
abbrev pub invariant-loop-current : goal.invariant-loop-current
invariant-loop-current l = IsTurned l.m (readings l.c) l.t l.current

-- the rewrites that are left
abbrev pub decreases-loop-current : goal.decreases-loop-current
decreases-loop-current l = rewrites_left l.m (readings l.c) (shape_of_set l.m l.current.set) (pipe_of l.current.pipe)
