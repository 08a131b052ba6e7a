use Rattle.std.proofs.Common.{◌≡◌, ap, refl}
use Rattle.apply_service.proofs.Ends.{gen-said}
use Rattle.apply_service.proofs.modes.answer_generated.Goals as goal

pub returns-in_default-clause-says : goal.returns-in_default-clause-says
returns-in_default-clause-says g c = (refl, refl)

pub returns-clause-says : goal.returns-clause-says
returns-clause-says g c =
    let over : c.new-replies.result.store.now ≡ c.in-Ok.store = ap (λ x. x.now) c.new-replies.ensures.store in
    gen-said _ _ _ _ _ _ c.in-Ok.store _ c.serve_samples.result c.new-replies.ensures.plan over c.in-Ok.ensures.value c.serve_samples.ensures.says
