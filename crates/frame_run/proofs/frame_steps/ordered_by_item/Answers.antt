use Rattle.std.proofs.Common.{◌≡◌, ◌∙◌, ◌∷◌, [], ap, sym, subst, length, Some, IsTrue}
use Rattle.std.specs.Prelude.{nat_lt}
use Rattle.std.specs.List.{list_all}
use Rattle.std.proofs.lemmas.List.{length-map}
use Rattle.std.proofs.lemmas.Result.{err_from_is_err_and}
use Rattle.edm_values.specs.Lists.{at_places, sorted}
use Rattle.apply_ast.specs.Views.{item_of}
use Rattle.apply_meaning.specs.Instances.{Instance, val}
use Rattle.apply_meaning.specs.Meaning.{order_before, order_values, refused_at_beyond, values}
use Rattle.frame_run.proofs.FrameSteps.{frame-order}
use Rattle.frame_run.proofs.frame_steps.ordered_by_item.Goals as goal

pub at-requires : goal.at-requires
at-requires g c =
    let w = c.args.store.now in
    let l = c.args.frame in
    let x = item_of c.args.item.now in
    let e : c.as_slice.result.now ≡ values w x.expr l = c.as_slice.ensures.value ∙ c.in_ok-values.ensures.value in
    let n : length c.as_slice.result.now ≡ length l = ap length e ∙ length-map l (λ (i : Instance). val w i x.expr) in
    record {
      within = subst (λ ks. IsTrue (list_all (λ k. nat_lt k (length l)) ks)) (sym c.as_slice-2.ensures.value) (subst (λ m. IsTrue (list_all (λ k. nat_lt k m) c.in_ok-places.places.items)) n c.in_ok-places.ensures.within);
    }

pub returns-in_err-places : goal.returns-in_err-places
returns-in_err-places g c =
    let w = c.args.store.now in
    let l = c.args.frame in
    let x = item_of c.args.item.now in
    let e : c.as_slice.result.now ≡ values w x.expr l = c.as_slice.ensures.value ∙ c.in_ok-values.ensures.value in
    let p = err_from_is_err_and c.from_residual-in_err-places.result c.from_residual-in_err-places.ensures.1 in
    rw (p.1, p.2) (frame-order c.in_err-places.field-0.0 (refused_at_beyond (order_values w (x ∷ []) l) (sorted (order_before w (x ∷ [])) l)) l (c.in_err-places.ensures.value w l e))

pub returns : goal.returns
returns g c =
    let w = c.args.store.now in
    let l = c.args.frame in
    let x = item_of c.args.item.now in
    let e : c.as_slice.result.now ≡ values w x.expr l = c.as_slice.ensures.value ∙ c.in_ok-values.ensures.value in
    c.in_ok-places.ensures.value w l e
    ∙ ap Some (ap (at_places l) (sym c.as_slice-2.ensures.value) ∙ sym c.in_ok-at.ensures.value)
