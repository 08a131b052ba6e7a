use Rattle.std.proofs.Common.{rules, ◌≡◌, ◌++◌, ◌∷◌, []}
use Rattle.edm_values.specs.Values.{seen_value}
use Rattle.step_run.proofs.KeptPlaces.{more-values}
use Rattle.step_run.proofs.kept_groups.own_values_at.Goals as goal

pub loop-at-preserved : goal.loop-at-preserved
loop-at-preserved c =
    let pushed : c.push.new.self.items ≡ c.loop-at.found.items ++ seen_value c.index-values-at.result ∷ [] = search rules in
    more-values c.args.values.now c.args.places.now c.loop-at.at-index c.index-values-at.result c.loop-at.found.items c.push.new.self.items c.requires c.loop-at-test.true c.index-values-at.is pushed c.loop-at.invariant
