use Rattle.std.proofs.Common.{rules, ◌≡◌, [], ◌∷◌, subst, false}
use Rattle.std.specs.Prelude.{IfSome}
use Rattle.std.specs.List.{list_any}
use Rattle.std.proofs.lemmas.Result.{err_from_is_err_and}
use Rattle.edm_values.specs.Lists.{sorted}
use Rattle.edm_values.specs.Values.{is_beyond}
use Rattle.apply_ast.specs.Views.{item_of}
use Rattle.apply_meaning.specs.Meaning.{order_before, values}
use Rattle.row_orders.specs.Places.{numbered}
use Rattle.row_orders.proofs.PlaceSorts.{ordered-places, ordered-within, order-refused}
use Rattle.row_orders.proofs.places.item_places.Goals as goal

pub returns-in-Some-clause-value : goal.returns-in-Some-clause-value
returns-in-Some-clause-value c = λ w l e.
    let numbers = subst (λ o. IfSome o (λ keys. keys.items ≡ numbered 0 c.args.values.now)) c.in-Some.is c.in_ok-keys.ensures.list in
    let sure = subst (λ o. IfSome o (λ keys. list_any is_beyond c.args.values.now ≡ false)) c.in-Some.is c.in_ok-keys.ensures.sure in
    ordered-places w (item_of c.args.item.now) l c.args.values.now c.in-Some.keys.items c.in_ok-places_in_order.field-0.items e numbers sure c.in_ok-places_in_order.ensures

pub returns-in-Some-clause-within : goal.returns-in-Some-clause-within
returns-in-Some-clause-within c =
    let numbers = subst (λ o. IfSome o (λ keys. keys.items ≡ numbered 0 c.args.values.now)) c.in-Some.is c.in_ok-keys.ensures.list in
    ordered-within (item_of c.args.item.now) c.args.values.now c.in-Some.keys.items c.in_ok-places_in_order.field-0.items numbers c.in_ok-places_in_order.ensures

pub returns-in-Some-2-clause-value : goal.returns-in-Some-2-clause-value
returns-in-Some-2-clause-value c = λ w l e.
    let numbers = subst (λ o. IfSome o (λ keys. keys.items ≡ numbered 0 c.args.values.now)) c.in-Some-2.is c.in_ok-keys-2.ensures.list in
    let sure = subst (λ o. IfSome o (λ keys. list_any is_beyond c.args.values.now ≡ false)) c.in-Some-2.is c.in_ok-keys-2.ensures.sure in
    ordered-places w (item_of c.args.item.now) l c.args.values.now c.in-Some-2.keys.items c.in_ok-places_in_order-2.field-0.items e numbers sure c.in_ok-places_in_order-2.ensures

pub returns-in-Some-2-clause-within : goal.returns-in-Some-2-clause-within
returns-in-Some-2-clause-within c =
    let numbers = subst (λ o. IfSome o (λ keys. keys.items ≡ numbered 0 c.args.values.now)) c.in-Some-2.is c.in_ok-keys-2.ensures.list in
    ordered-within (item_of c.args.item.now) c.args.values.now c.in-Some-2.keys.items c.in_ok-places_in_order-2.field-0.items numbers c.in_ok-places_in_order-2.ensures

pub returns-clause-value : goal.returns-clause-value
returns-clause-value c = λ w l e.
    ordered-places w (item_of c.args.item.now) l c.args.values.now c.in_ok-keys-3.keys.items c.in_ok-places_in_order-3.field-0.items e c.in_ok-keys-3.ensures.0 c.in_ok-keys-3.ensures.1 c.in_ok-places_in_order-3.ensures

pub returns-clause-within : goal.returns-clause-within
returns-clause-within c =
    ordered-within (item_of c.args.item.now) c.args.values.now c.in_ok-keys-3.keys.items c.in_ok-places_in_order-3.field-0.items c.in_ok-keys-3.ensures.0 c.in_ok-places_in_order-3.ensures

pub returns-in_err-keys-3-clause-value : goal.returns-in_err-keys-3-clause-value
returns-in_err-keys-3-clause-value c = λ w l e.
    let x = item_of c.args.item.now in
    let p = err_from_is_err_and c.from_residual-in_err-keys-3.result c.from_residual-in_err-keys-3.ensures.1 in
    rw (p.1, p.2) (order-refused c.in_err-keys-3.field-0.0 w x l c.args.values.now (sorted (order_before w (x ∷ [])) l) e c.in_err-keys-3.ensures)
