use Rattle.std.proofs.Common.{subst}
use Rattle.context_typing.specs.Readings.{readings}
use Rattle.optimiser.specs.Plans.{IsFirstOf, later_rules}
use Rattle.optimiser.proofs.PlanTurns.{turn-begun}
use Rattle.optimiser.proofs.plans.turns.Goals as goal

pub loop-turn-init : goal.loop-turn-init
loop-turn-init c = c.in_ok-current.ensures

pub loop-turn-preserved : goal.loop-turn-preserved
loop-turn-preserved c =
    let m = c.args.m.now in
    let cs = readings c.args.c.now in
    let q = c.loop-turn.current in
    turn-begun m cs c.args.t.now q c.in-Some.after (c.in_ok-next-in-Some.next, c.in_ok-next-in-Some.ended) (c.loop-turn.invariant).made (subst (IsFirstOf later_rules m cs q) c.in-Some.is c.in_ok-after.ensures.value) c.in_ok-next-in-Some.ensures

pub returns-then-done : goal.returns-then-done
returns-then-done c = record { made = (c.loop-turn.invariant).made; done = λ d. (c.loop-turn.invariant).done c.if-done.true }

pub returns-in-None : goal.returns-in-None
returns-in-None c =
    let m = c.args.m.now in
    let cs = readings c.args.c.now in
    record { made = (c.loop-turn.invariant).made; done = λ d. subst (IsFirstOf later_rules m cs c.loop-turn.current) c.in-None.is c.in_ok-after.ensures.value }
