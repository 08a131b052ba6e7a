use Rattle.context_typing.specs.Readings.{readings}
use Rattle.optimiser.proofs.PlanTurns.{not-known, own-plan, plan-chain}
use Rattle.optimiser.proofs.plans.rounded.Goals as goal

pub loop-round-init : goal.loop-round-init
loop-round-init c =
    let k = c.in_ok-current.ensures in
    own-plan c.args.m.now (readings c.args.c.now) c.args.t.now c.in_ok-current.current c.requires.typing k.set k.shape k.pipe

pub loop-round-preserved : goal.loop-round-preserved
loop-round-preserved c =
    let m = c.args.m.now in
    let cs = readings c.args.c.now in
    plan-chain m cs c.args.t.now c.in_ok-next.next c.in_ok-crossed.crossed (plan-chain m cs c.args.t.now c.loop-round.current c.in_ok-next.next c.loop-round.invariant (c.in_ok-next.ensures).made) c.in_ok-crossed.ensures

pub returns-then-not-gives_anywhere : goal.returns-then-not-gives_anywhere
returns-then-not-gives_anywhere c = not-known c.args.m.now (readings c.args.c.now) c.args.t.now c.loop-round.current c.loop-round.invariant

pub returns-then-done : goal.returns-then-done
returns-then-done c =
    record { made = plan-chain c.args.m.now (readings c.args.c.now) c.args.t.now c.loop-round.current c.in_ok-next.next c.loop-round.invariant (c.in_ok-next.ensures).made; done = λ d. (c.in_ok-next.ensures).done c.if-done.true }

pub returns : goal.returns
returns c = not-known c.args.m.now (readings c.args.c.now) c.args.t.now c.loop-round.current c.loop-round.invariant
