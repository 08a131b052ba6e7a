use Rattle.context_typing.specs.Readings.{readings}
use Rattle.optimiser.proofs.PlanTurns.{begun-chain, ended-begun}
use Rattle.optimiser.proofs.plans.begun.Goals as goal

pub returns-then-done : goal.returns-then-done
returns-then-done c =
    let k = c.in_ok-from.ensures in
    ended-begun c.args.m.now (readings c.args.c.now) c.args.t.now c.in_ok-from.from k.made (k.done c.if-done.true)

pub returns : goal.returns
returns c = begun-chain c.args.m.now (readings c.args.c.now) c.args.t.now c.in_ok-from.from c.in_ok-next.next (c.in_ok-from.ensures).made c.in_ok-next.ensures
