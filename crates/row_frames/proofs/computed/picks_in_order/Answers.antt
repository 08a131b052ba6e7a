use Rattle.row_frames.proofs.GatherLemmas.{picks-more}
use Rattle.row_frames.proofs.computed.picks_in_order.Goals as goal

pub loop-k-preserved : goal.loop-k-preserved
loop-k-preserved c =
    picks-more c.args.picks.now c.loop-k.made.items c.push.new.self.items c.loop-k.k _ c.in_ok-at_row.field-0
    c.loop-k.invariant c.loop-k-test.true c.in_ok-at_row.ensures c.in_ok-push.ensures.items
