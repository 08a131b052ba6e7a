use Rattle.step_run.proofs.KeptPlaces.{more-places}
use Rattle.step_run.proofs.kept_groups.places_at.Goals as goal

pub loop-k-preserved : goal.loop-k-preserved
loop-k-preserved c = more-places c.args.places.now c.args.chosen.now c.loop-k.k-index c.loop-k.found.items c.push.new.self.items c.requires c.loop-k-test.true c.in_ok-push.ensures.items c.loop-k.invariant
