use Rattle.std.proofs.Common.{◌≡◌, ◌∙◌, ap, sym, subst, length, map, Some, List, IsTrue}
use Rattle.std.specs.Prelude.{Err, nat_lt, option_map}
use Rattle.std.specs.List.{list_all}
use Rattle.std.proofs.lemmas.List.{length-map}
use Rattle.std.proofs.lemmas.Result.{err_from_is_err_and}
use Rattle.edm_data.specs.Worlds.{World}
use Rattle.edm_values.specs.Lists.{at_places}
use Rattle.edm_values.specs.Values.{seen_value, top_places}
use Rattle.edm_values.specs.declared.Value.{Value}
use Rattle.apply_ast.specs.Views.{top_of}
use Rattle.apply_meaning.specs.Instances.{Instance, val}
use Rattle.apply_meaning.specs.Meaning.{reaches, values}
use Rattle.row_frames.specs.Frames.{GivesFrame}
use Rattle.step_run.specs.Conditions.{LimitReady}
use Rattle.frame_run.proofs.FrameSteps.{frame-numbers}
use Rattle.frame_run.proofs.frame_steps.frame_selected.Goals as goal

pub selected_places-requires-clause-limit : goal.selected_places-requires-clause-limit
selected_places-requires-clause-limit g c κs within =
    let t = top_of c.args.top.now in
    let l = c.args.frame in
    let e : map seen_value c.as_slice.result.now ≡ values c.args.context.now.world t.expr l = ap (map seen_value) c.as_slice.ensures.value ∙ c.in_ok-values.ensures.value ∙ ap (λ (w : World). values w t.expr l) c.store-store.ensures.value in
    subst (λ (vs : List Value). LimitReady t.limit vs) (sym e) c.selection_ready.ensures.limit

pub at-requires : goal.at-requires
at-requires g c =
    let w = c.args.context.now.world in
    let t = top_of c.args.top.now in
    let l = c.args.frame in
    let e : map seen_value c.as_slice.result.now ≡ values w t.expr l = ap (map seen_value) c.as_slice.ensures.value ∙ c.in_ok-values.ensures.value ∙ ap (λ (w : World). values w t.expr l) c.store-store.ensures.value in
    let n : length c.as_slice.result.now ≡ length l = sym (length-map c.as_slice.result.now seen_value) ∙ ap length e ∙ length-map l (λ (i : Instance). val w i t.expr) in
    record {
      within = subst (λ ks. IsTrue (list_all (λ k. nat_lt k (length l)) ks)) (sym c.as_slice-2.ensures.value) (subst (λ m. IsTrue (list_all (λ k. nat_lt k m) c.in_ok-places.places.items)) n c.in_ok-places.ensures.within);
    }

pub returns-in_err-places : goal.returns-in_err-places
returns-in_err-places g c =
    let w = c.args.context.now.world in
    let t = top_of c.args.top.now in
    let l = c.args.frame in
    let e : map seen_value c.as_slice.result.now ≡ values w t.expr l = ap (map seen_value) c.as_slice.ensures.value ∙ c.in_ok-values.ensures.value ∙ ap (λ (w : World). values w t.expr l) c.store-store.ensures.value in
    let p = err_from_is_err_and c.from_residual-in_err-places.result c.from_residual-in_err-places.ensures.1 in
    rw (p.1, p.2) (subst (λ (vs : List Value). GivesFrame (Err c.in_err-places.field-0.0) (option_map (at_places l) (top_places (reaches t.limit vs) t.bottom vs))) e (frame-numbers c.in_err-places.field-0.0 _ l c.in_err-places.ensures.value))

pub returns : goal.returns
returns g c =
    let w = c.args.context.now.world in
    let t = top_of c.args.top.now in
    let l = c.args.frame in
    let e : map seen_value c.as_slice.result.now ≡ values w t.expr l = ap (map seen_value) c.as_slice.ensures.value ∙ c.in_ok-values.ensures.value ∙ ap (λ (w : World). values w t.expr l) c.store-store.ensures.value in
    ap (option_map (at_places l)) (sym (ap (λ (vs : List Value). top_places (reaches t.limit vs) t.bottom vs) e) ∙ c.in_ok-places.ensures.value)
    ∙ ap Some (ap (at_places l) (sym c.as_slice-2.ensures.value) ∙ sym c.in_ok-at.ensures.value)
