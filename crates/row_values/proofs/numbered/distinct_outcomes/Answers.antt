use Rattle.edm_values.specs.declared.Method.TheVariants as by
use Rattle.aggregate_ops.specs.Partials.{IsDistinctOf}
use Rattle.row_values.proofs.NumberedLemmas.{told-all, told-next, told-none}
use Rattle.row_values.proofs.numbered.distinct_outcomes.Goals as goal

pub loop-group-init : goal.loop-group-init
loop-group-init c = told-none IsDistinctOf by.CountDistinct c.groups-groups.result.now c.in_ok-found.found.items c.in_ok-found.ensures.items

pub loop-group-preserved : goal.loop-group-preserved
loop-group-preserved c =
    told-next IsDistinctOf by.CountDistinct c.groups-groups.result.now c.loop-group.found.items _ c.loop-group.group-index c.group-item.result _ c.loop-group-test.true c.group-item.is c.finish.ensures.value c.in_ok-push.ensures.items c.loop-group.invariant

pub returns : goal.returns
returns c = λ xs h.
    told-all IsDistinctOf by.CountDistinct c.args.folds.now c.groups-groups.result.now c.loop-group.found.items c.loop-group.group-index xs c.groups-groups.ensures.value c.loop-group-test.false c.loop-group.invariant h
