use Rattle.std.proofs.Common.{◌≡◌, ◌∙◌, ◌∷◌, [], ap, sym, subst, length, map, IsTrue}
use Rattle.std.specs.Prelude.{nat_lt}
use Rattle.std.specs.List.{list_all}
use Rattle.std.proofs.lemmas.Result.{err_from_is_err_and}
use Rattle.edm_values.specs.Lists.{at_places, sorted}
use Rattle.edm_values.specs.Values.{seen_value}
use Rattle.apply_ast.specs.Views.{item_of}
use Rattle.apply_meaning.specs.Meaning.{order_before, order_values, refused_at_beyond, values}
use Rattle.step_run.proofs.KeptPlaces.{order-placed, order-refused, own-long, seen-within, values-placed, within-twice}
use Rattle.step_run.proofs.kept_groups.ordered_by_item.Goals as goal

pub own_values_at-requires : goal.own_values_at-requires
own_values_at-requires g c = seen-within c.args.context.now.world (item_of c.args.item.now).expr c.args.rows.now c.args.places.now c.args.seen.now c.requires.values c.requires.within

pub places_at-requires : goal.places_at-requires
places_at-requires g c =
    let w = c.args.context.now.world in
    let x = item_of c.args.item.now in
    let l = c.args.rows.now in
    let ks = c.args.places.now in
    let e : c.as_slice.result.now ≡ values w x.expr (at_places l ks) = c.as_slice.ensures.value ∙ c.in_ok-own.ensures ∙ values-placed w x.expr l ks (map seen_value c.args.seen.now) c.requires.values in
    let n : length c.as_slice.result.now ≡ length ks = own-long w x.expr l ks c.as_slice.result.now e c.requires.within in
    subst (λ js. IsTrue (list_all (λ k. nat_lt k (length ks)) js)) (sym c.as_slice-2.ensures.value) (subst (λ m. IsTrue (list_all (λ k. nat_lt k m) c.in_ok-order.order.items)) n c.in_ok-order.ensures.within)

pub returns-in_err-order-clause-mean : goal.returns-in_err-order-clause-mean
returns-in_err-order-clause-mean g c =
    let w = c.args.context.now.world in
    let x = item_of c.args.item.now in
    let l = c.args.rows.now in
    let ks = c.args.places.now in
    let e : c.as_slice.result.now ≡ values w x.expr (at_places l ks) = c.as_slice.ensures.value ∙ c.in_ok-own.ensures ∙ values-placed w x.expr l ks (map seen_value c.args.seen.now) c.requires.values in
    let p = err_from_is_err_and c.from_residual-in_err-order.result c.from_residual-in_err-order.ensures.1 in
    rw (p.1, p.2) (order-refused c.in_err-order.field-0.0 (at_places l ks) l (refused_at_beyond (order_values w (x ∷ []) (at_places l ks)) (sorted (order_before w (x ∷ [])) (at_places l ks))) (c.in_err-order.ensures.value w (at_places l ks) e))

pub returns-clause-mean : goal.returns-clause-mean
returns-clause-mean g c =
    let w = c.args.context.now.world in
    let x = item_of c.args.item.now in
    let l = c.args.rows.now in
    let ks = c.args.places.now in
    let e : c.as_slice.result.now ≡ values w x.expr (at_places l ks) = c.as_slice.ensures.value ∙ c.in_ok-own.ensures ∙ values-placed w x.expr l ks (map seen_value c.args.seen.now) c.requires.values in
    let n : length c.as_slice.result.now ≡ length ks = own-long w x.expr l ks c.as_slice.result.now e c.requires.within in
    order-placed l ks c.in_ok-order.order.items c.in_ok-places_at.field-0.items _ c.requires.within
    (subst (λ m. IsTrue (list_all (λ k. nat_lt k m) c.in_ok-order.order.items)) n c.in_ok-order.ensures.within)
    (c.in_ok-places_at.ensures ∙ ap (at_places ks) c.as_slice-2.ensures.value)
    (c.in_ok-order.ensures.value w (at_places l ks) e)

pub returns-clause-within : goal.returns-clause-within
returns-clause-within g c =
    subst (λ js. IsTrue (list_all (λ k. nat_lt k (length c.args.rows.now)) js)) (sym c.in_ok-places_at.ensures) (within-twice c.args.rows.now c.args.places.now c.as_slice-2.result.now c.requires.within)
