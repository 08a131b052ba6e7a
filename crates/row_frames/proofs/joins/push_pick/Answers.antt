use Rattle.row_frames.proofs.BesideLemmas.{times-more}
use Rattle.row_frames.proofs.joins.push_pick.Goals as goal

pub loop-place-preserved : goal.loop-place-preserved
loop-place-preserved c = times-more c.args.pick c.args.times.now c.loop-place._place-index c.args.all.items c.loop-place.all.items _ c.loop-place.invariant c.loop-place-test.true c.in_ok-push.ensures.items
