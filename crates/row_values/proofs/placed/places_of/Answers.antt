use Rattle.row_frames.proofs.PlaceLemmas.{more-copied}
use Rattle.row_values.proofs.placed.places_of.Goals as goal

pub loop-at-preserved : goal.loop-at-preserved
loop-at-preserved c =
    more-copied c.args.own.now c.args.places.now c.loop-at.at-index _ c.loop-at.found.items c.push.new.self.items c.requires c.loop-at-test.true c.in_ok-push.ensures.items c.loop-at.invariant
