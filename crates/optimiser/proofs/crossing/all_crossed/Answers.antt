use Rattle.context_typing.specs.Readings.{readings}
use Rattle.optimiser.specs.Plans.{HasPlanOf}
use Rattle.std.specs.Prelude.{IfSome}
use Rattle.std.proofs.Common.{subst}
use Rattle.optimiser.proofs.PlanTurns.{own-plan, plan-chain}
use Rattle.optimiser.proofs.crossing.all_crossed.Goals as goal

pub loop-crossing-init : goal.loop-crossing-init
loop-crossing-init c =
    let k = c.in_ok-current.ensures in
    own-plan c.args.m.now (readings c.args.c.now) c.args.t.now c.in_ok-current.current c.requires.typing k.set k.shape k.pipe

pub loop-crossing-preserved : goal.loop-crossing-preserved
loop-crossing-preserved c =
    let m = c.args.m.now in
    let cs = readings c.args.c.now in
    let q = c.loop-crossing.current in
    plan-chain m cs c.args.t.now q c.in-Some.next c.loop-crossing.invariant (subst (λ o. IfSome o (HasPlanOf m cs q)) c.in-Some.is c.in_ok-next.ensures)
