use Rattle.std.proofs.Common.{rules, ◌≡◌, ◌++◌, ◌∷◌, []}
use Rattle.step_run.proofs.ItemLists.{more-placed}
use Rattle.step_run.proofs.contexts.copies_at.Goals as goal

pub loop-at-preserved : goal.loop-at-preserved
loop-at-preserved c =
    let pushed : c.push.new.self.items ≡ c.loop-at.copies.items ++ c.index-values-at.result ∷ [] = search rules in
    more-placed c.args.values.now c.args.places.now c.loop-at.at-index c.index-values-at.result c.loop-at.copies.items c.push.new.self.items c.requires c.loop-at-test.true c.index-values-at.is pushed c.loop-at.invariant
