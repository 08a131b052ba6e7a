use Rattle.std.proofs.Common.{◌<◌, get_or, length}
use Rattle.row_frames.proofs.PlaceLemmas.{more-placed, place-below}
use Rattle.row_frames.proofs.placed.picks_at.Goals as goal

pub at-requires : goal.at-requires
at-requires c = place-below c.args.picks.now c.args.places.now c.loop-at.at-index c.requires c.loop-at-test.true

pub loop-at-preserved : goal.loop-at-preserved
loop-at-preserved c =
    more-placed c.args.picks.now c.args.places.now c.loop-at.at-index c.at.result c.loop-at.found.items c.push.new.self.items c.requires c.loop-at-test.true (c.at.ensures c.at.result) c.in_ok-push.ensures.items c.loop-at.invariant
