use Rattle.std.proofs.Common.{◌∙◌, ap, sym, subst, length, Some, IsTrue}
use Rattle.std.specs.Prelude.{nat_lt}
use Rattle.std.specs.List.{list_all}
use Rattle.std.proofs.lemmas.Result.{err_from_is_err_and}
use Rattle.edm_values.specs.Lists.{at_places}
use Rattle.frame_run.proofs.FrameSteps.{frame-order}
use Rattle.frame_run.proofs.frame_steps.frame_climbed.Goals as goal

pub at-requires : goal.at-requires
at-requires g c = record { within = subst (λ ks. IsTrue (list_all (λ k. nat_lt k (length c.args.frame)) ks)) (sym c.as_slice.ensures.value) c.in_ok-places.ensures.within }

pub returns-in_err-places : goal.returns-in_err-places
returns-in_err-places g c =
    let p = err_from_is_err_and c.from_residual.result c.from_residual.ensures.1 in
    rw (p.1, p.2) (frame-order c.in_err-places.field-0.0 _ c.args.frame c.in_err-places.ensures.value)

pub returns : goal.returns
returns g c = c.in_ok-places.ensures.value ∙ ap Some (ap (at_places c.args.frame) (sym c.as_slice.ensures.value) ∙ sym c.in_ok-at.ensures.value)
