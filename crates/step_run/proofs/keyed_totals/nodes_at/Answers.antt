use Rattle.std.proofs.Common.{◌∙◌, ◌∷◌, [], ap, arith, length, length-append}
use Rattle.step_run.proofs.KeyedParts.{more-read}
use Rattle.step_run.proofs.keyed_totals.nodes_at.Goals as goal

pub loop-place-preserved : goal.loop-place-preserved
loop-place-preserved c =
    let before = c.loop-place.invariant.long in
    record {
      rest = more-read c.args.nodes.now c.args.places.now c.loop-place.place-index _ c.loop-place.own.items c.push.new.self.items c.requires c.loop-place-test.true c.in_ok-push.ensures.items c.loop-place.invariant.rest;
      long = omega (arith, before, ap length c.in_ok-push.ensures.items ∙ length-append c.loop-place.own.items (_ ∷ []));
    }
