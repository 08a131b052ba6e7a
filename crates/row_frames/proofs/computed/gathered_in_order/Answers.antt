use Rattle.std.proofs.Common.{◌∙◌}
use Rattle.row_frames.proofs.GatherLemmas.{gathered-all, ordered-inside, ordered-picked, ordered-rows}
use Rattle.row_frames.proofs.computed.gathered_in_order.Goals as goal

pub returns-clause-tables : goal.returns-clause-tables
returns-clause-tables c = gathered-all c.as_slice.result.now c.args.tables.now c.in_ok-made.made.items c.in_ok-made.ensures c.requires.tables

pub returns-clause-within : goal.returns-clause-within
returns-clause-within c =
    ordered-inside c.args.tables.now c.in_ok-made.made.items c.args.picks.now c.in_ok-picks_in_order.field-0.items c.as_slice.result.now c.in_ok-picks_in_order.ensures c.in_ok-made.ensures c.requires.within

pub returns-clause-order : goal.returns-clause-order
returns-clause-order c = ordered-rows c.args.picks.now c.in_ok-picks_in_order.field-0.items c.in_ok-picks_in_order.ensures

pub returns-clause-picked : goal.returns-clause-picked
returns-clause-picked c =
    ordered-picked c.args.tables.now c.in_ok-made.made.items c.args.picks.now c.in_ok-picks_in_order.field-0.items c.as_slice.result.now
    (c.as_slice.ensures.value ∙ c.in_ok-rows.ensures) c.in_ok-picks_in_order.ensures c.in_ok-made.ensures c.requires.within
