use Rattle.std.proofs.Common.{rules}
use Rattle.step_run.proofs.KeptPlaces.{more-seen}
use Rattle.step_run.proofs.kept_groups.values_at.Goals as goal

pub loop-at-preserved : goal.loop-at-preserved
loop-at-preserved c =
    more-seen c.args.values.now c.args.places.now c.loop-at.at-index c.index-values-at.result c.loop-at.found.items c.push.new.self.items c.requires c.loop-at-test.true c.index-values-at.is c.in_ok-push.ensures.items c.loop-at.invariant
