use Rattle.std.proofs.Common.{◌∙◌, ◌++◌, ap}
use Rattle.row_frames.specs.Beside.{beside_places}
use Rattle.row_frames.proofs.BesideLemmas.{beside-next}
use Rattle.row_frames.proofs.joins.bound_places.Goals as goal

pub loop-places-preserved : goal.loop-places-preserved
loop-places-preserved c =
    beside-next c.args.outer c.args.inner.now c.loop-places.places-index c.places-item.result c.loop-places.all.items _
    c.loop-places.invariant c.loop-places-test.true c.places-item.is (c.in_ok-all-2.ensures ∙ ap (λ ks. c.loop-places.all.items ++ beside_places c.args.outer ks) c.as_slice.ensures.value)
