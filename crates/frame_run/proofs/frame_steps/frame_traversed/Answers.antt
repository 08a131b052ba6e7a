use Rattle.std.proofs.Common.{◌≡◌, ◌∙◌, List, ap, sym, subst, length, Some, Err, IsTrue}
use Rattle.std.specs.Prelude.{nat_lt}
use Rattle.std.specs.List.{list_all}
use Rattle.std.proofs.lemmas.Result.{err_from_is_err_and}
use Rattle.edm_values.specs.Lists.{at_places}
use Rattle.apply_ast.specs.Views.{traverse_of}
use Rattle.apply_meaning.specs.Instances.{Instance}
use Rattle.row_orders.specs.Places.{GivesOrder}
use Rattle.step_run.specs.Hierarchies.{traversal}
use Rattle.frame_run.proofs.FrameSteps.{frame-order}
use Rattle.frame_run.proofs.frame_steps.frame_traversed.Goals as goal

pub at-requires : goal.at-requires
at-requires g c = record {
  within = subst (λ (l : List Instance). IsTrue (list_all (λ k. nat_lt k (length l)) c.as_slice.result.now)) c.of_frame.ensures.value
      (subst (λ ks. IsTrue (list_all (λ k. nat_lt k (length c.of_frame.result)) ks)) (sym c.as_slice.ensures.value) c.in_ok-places.ensures.within);
}

pub returns-in_err-places-clause-mean : goal.returns-in_err-places-clause-mean
returns-in_err-places-clause-mean g c =
    let w = c.args.context.now.world in
    let t = traverse_of c.args.walk.now in
    let e = c.in_err-places.field-0.0 in
    let given = subst (λ (l : List Instance). GivesOrder (Err e) l (traversal w t l)) c.of_frame.ensures.value c.in_err-places.ensures.value in
    let p = err_from_is_err_and c.from_residual.result c.from_residual.ensures.1 in
    rw (p.1, p.2) (frame-order e (traversal w t c.args.frame) c.args.frame given)

pub returns-clause-mean : goal.returns-clause-mean
returns-clause-mean g c =
    let w = c.args.context.now.world in
    let t = traverse_of c.args.walk.now in
    let given = subst (λ (l : List Instance). traversal w t l ≡ Some (at_places l c.in_ok-places.places.items)) c.of_frame.ensures.value c.in_ok-places.ensures.value in
    given ∙ ap Some (ap (at_places c.args.frame) (sym c.as_slice.ensures.value) ∙ sym c.in_ok-at.ensures.value)
