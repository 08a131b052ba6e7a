use Rattle.row_values.proofs.NumberedLemmas.{told-by, told-next, told-none}
use Rattle.row_values.proofs.numbered.outcomes.Goals as goal

pub loop-group-init : goal.loop-group-init
loop-group-init g c = told-none g.P.Partial.stands_for g.P.Aggregated.method c.args.groups.now c.in_ok-found.found.items c.in_ok-found.ensures.items

pub loop-group-preserved : goal.loop-group-preserved
loop-group-preserved g c =
    told-next g.P.Partial.stands_for g.P.Aggregated.method c.args.groups.now c.loop-group.found.items _ c.loop-group.group-index c.group-item.result _ c.loop-group-test.true c.group-item.is c.in_ok-outcome.ensures.value c.in_ok-push.ensures.items c.loop-group.invariant

pub returns : goal.returns
returns g c = λ all numbers count h.
    told-by g.P.Partial.kind g.P.Partial.stands_for g.P.Aggregated.method all numbers count c.args.groups.now c.loop-group.found.items c.loop-group.group-index c.loop-group-test.false c.loop-group.invariant h
