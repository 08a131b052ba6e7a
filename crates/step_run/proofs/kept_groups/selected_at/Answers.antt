use Rattle.std.proofs.Common.{◌≡◌, ◌∙◌, ap, sym, subst, length, map, List, IsTrue}
use Rattle.std.specs.Prelude.{Err, nat_lt, option_map}
use Rattle.std.specs.List.{list_all}
use Rattle.std.proofs.lemmas.List.{length-map}
use Rattle.std.proofs.lemmas.Result.{err_from_is_err_and}
use Rattle.edm_values.specs.Lists.{at_places}
use Rattle.edm_values.specs.Values.{seen_value, top_places}
use Rattle.edm_values.specs.declared.Value.{Value}
use Rattle.apply_ast.specs.Views.{top_of}
use Rattle.apply_meaning.specs.Meaning.{reaches, values}
use Rattle.row_orders.specs.Places.{GivesOrder}
use Rattle.step_run.specs.Conditions.{LimitReady}
use Rattle.step_run.proofs.KeptPlaces.{order-numbers, order-placed, own-long, seen-within, values-placed, within-twice}
use Rattle.step_run.proofs.kept_groups.selected_at.Goals as goal

pub values_at-requires : goal.values_at-requires
values_at-requires g c = seen-within c.args.context.now.world (top_of c.args.top.now).expr c.args.rows.now c.args.places.now c.first_list-seen.result.now (c.first_list-seen.ensures _ c.requires.lists) c.requires.within

pub selected_places-requires-clause-limit : goal.selected_places-requires-clause-limit
selected_places-requires-clause-limit g c κs within =
    let w = c.args.context.now.world in
    let t = top_of c.args.top.now in
    let l = c.args.rows.now in
    let ks = c.args.places.now in
    let e : map seen_value c.as_slice.result.now ≡ values w t.expr (at_places l ks) = ap (map seen_value) c.as_slice.ensures.value ∙ c.in_ok-own.ensures ∙ values-placed w t.expr l ks (map seen_value c.first_list-seen.result.now) (c.first_list-seen.ensures _ c.requires.lists) in
    subst (λ (vs : List Value). LimitReady t.limit vs) (sym e) c.requires.limit

pub places_at-requires : goal.places_at-requires
places_at-requires g c =
    let w = c.args.context.now.world in
    let t = top_of c.args.top.now in
    let l = c.args.rows.now in
    let ks = c.args.places.now in
    let e : map seen_value c.as_slice.result.now ≡ values w t.expr (at_places l ks) = ap (map seen_value) c.as_slice.ensures.value ∙ c.in_ok-own.ensures ∙ values-placed w t.expr l ks (map seen_value c.first_list-seen.result.now) (c.first_list-seen.ensures _ c.requires.lists) in
    let n : length c.as_slice.result.now ≡ length ks = sym (length-map c.as_slice.result.now seen_value) ∙ own-long w t.expr l ks (map seen_value c.as_slice.result.now) e c.requires.within in
    subst (λ js. IsTrue (list_all (λ k. nat_lt k (length ks)) js)) (sym c.as_slice-2.ensures.value) (subst (λ m. IsTrue (list_all (λ k. nat_lt k m) c.in_ok-taken.taken.items)) n c.in_ok-taken.ensures.within)

pub returns-in_err-taken-clause-mean : goal.returns-in_err-taken-clause-mean
returns-in_err-taken-clause-mean g c =
    let w = c.args.context.now.world in
    let t = top_of c.args.top.now in
    let l = c.args.rows.now in
    let ks = c.args.places.now in
    let e : map seen_value c.as_slice.result.now ≡ values w t.expr (at_places l ks) = ap (map seen_value) c.as_slice.ensures.value ∙ c.in_ok-own.ensures ∙ values-placed w t.expr l ks (map seen_value c.first_list-seen.result.now) (c.first_list-seen.ensures _ c.requires.lists) in
    let p = err_from_is_err_and c.from_residual-in_err-taken.result c.from_residual-in_err-taken.ensures.1 in
    rw (p.1, p.2) (subst (λ (vs : List Value). GivesOrder (Err c.in_err-taken.field-0.0) l (option_map (at_places (at_places l ks)) (top_places (reaches t.limit vs) t.bottom vs))) e (order-numbers c.in_err-taken.field-0.0 _ (at_places l ks) l c.in_err-taken.ensures.value))

pub returns-clause-mean : goal.returns-clause-mean
returns-clause-mean g c =
    let w = c.args.context.now.world in
    let t = top_of c.args.top.now in
    let l = c.args.rows.now in
    let ks = c.args.places.now in
    let e : map seen_value c.as_slice.result.now ≡ values w t.expr (at_places l ks) = ap (map seen_value) c.as_slice.ensures.value ∙ c.in_ok-own.ensures ∙ values-placed w t.expr l ks (map seen_value c.first_list-seen.result.now) (c.first_list-seen.ensures _ c.requires.lists) in
    let n : length c.as_slice.result.now ≡ length ks = sym (length-map c.as_slice.result.now seen_value) ∙ own-long w t.expr l ks (map seen_value c.as_slice.result.now) e c.requires.within in
    order-placed l ks c.in_ok-taken.taken.items c.in_ok-places_at.field-0.items _ c.requires.within
    (subst (λ m. IsTrue (list_all (λ k. nat_lt k m) c.in_ok-taken.taken.items)) n c.in_ok-taken.ensures.within)
    (c.in_ok-places_at.ensures ∙ ap (at_places ks) c.as_slice-2.ensures.value)
    (ap (option_map (at_places (at_places l ks))) (sym (ap (λ (vs : List Value). top_places (reaches t.limit vs) t.bottom vs) e) ∙ c.in_ok-taken.ensures.value))

pub returns-clause-within : goal.returns-clause-within
returns-clause-within g c =
    subst (λ js. IsTrue (list_all (λ k. nat_lt k (length c.args.rows.now)) js)) (sym c.in_ok-places_at.ensures) (within-twice c.args.rows.now c.args.places.now c.as_slice-2.result.now c.requires.within)
