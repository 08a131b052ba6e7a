use Rattle.std.proofs.Common.{◌∙◌, ap}
use Rattle.std.proofs.lemmas.Result.{on_ok_weaker}
use Rattle.optimiser.specs.HeldSegments as held
use Rattle.walk_laws.specs.Walks as spec
use Rattle.optimiser.proofs.putting.take.Goals as goal

pub returns-clause-value : goal.returns-clause-value
returns-clause-value c w =
    let m = c.args.m.now in
    on_ok_weaker c.take_as.result
    (λ p. p ∙ ap (spec.taken_as (held.segment_of m w c.args.segment.now) (held.test_of c.args.test)) c.in_ok-into.ensures)
    (c.take_as.ensures.value m w)
