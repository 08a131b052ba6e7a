use Rattle.std.proofs.Common.{◌≡◌, ◌∙◌, ◌+◌, ◌-◌, ◌∷◌, [], ℕ, suc, ap, sym, subst, map, length, Some, Err, List, arith}
use Rattle.std.proofs.lemmas.Result.{err_from_is_err_and}
use Rattle.edm_values.specs.Lists.{at_places, sorted}
use Rattle.edm_values.specs.Values.{seen_value}
use Rattle.apply_ast.specs.Views.{item_of}
use Rattle.apply_ast.specs.declared.items.OrderItem as code
use Rattle.apply_meaning.specs.Meaning.{order_before, order_values, refused_at_beyond, values}
use Rattle.row_orders.specs.Places.{GivesOrder}
use Rattle.row_orders.proofs.ItemSorts.{behind-all, behind-more, behind-none, behind-refused}
use Rattle.step_run.proofs.KeptPlaces.{gives-order, order-gives, read-item}
use Rattle.step_run.proofs.kept_groups.ordered_at.Goals as goal

pub loop-k-init : goal.loop-k-init
loop-k-init g c = (c.requires.within, behind-none c.args.context.now.world c.as_slice-all.result.now (at_places c.args.rows.now c.args.places.items) c.requires.of)

pub ordered_by_item-requires-clause-values : goal.ordered_by_item-requires-clause-values
ordered_by_item-requires-clause-values g c κs within =
    let last = length c.as_slice-all.result.now - 1 - c.loop-k.k in
    ap (map seen_value) c.as_slice-seen.ensures.value
    ∙ read-item c.args.context.now.world c.args.rows.now c.args.lists.now c.as_slice-all.result.now last c.index-lists-last.result c.index-all-last.result
    (c.requires.lists ∙ ap (map (λ (x : code.OrderItem). values c.args.context.now.world (item_of x).expr c.args.rows.now)) (sym c.as_slice-all.ensures.value))
    (omega (arith, c.loop-k-test.true)) c.index-lists-last.is c.index-all-last.is

pub loop-k-preserved : goal.loop-k-preserved
loop-k-preserved g c =
    let w = c.args.context.now.world in
    let rows = c.args.rows.now in
    let is = c.as_slice-all.result.now in
    let k = c.loop-k.k in
    let at : length is - 1 - k + suc k ≡ length is = omega (arith, c.loop-k-test.true) in
    let e = c.as_slice.ensures.value in (
      c.in_ok-places.ensures.within,
      behind-more w is k (at_places rows c.args.places.items) (at_places rows c.loop-k.places.items) c.loop-k.invariant.1 (length is - 1 - k) c.index-all-last.result at c.index-all-last.is (at_places rows c.in_ok-places.places.items)
          (subst (λ (ks : List ℕ). let xs = item_of c.index-all-last.result ∷ [] in refused_at_beyond (order_values w xs (at_places rows ks)) (sorted (order_before w xs) (at_places rows ks)) ≡ Some (at_places rows c.in_ok-places.places.items)) e c.in_ok-places.ensures.mean),
    )

pub returns-in_err-places-clause-mean : goal.returns-in_err-places-clause-mean
returns-in_err-places-clause-mean g c =
    let w = c.args.context.now.world in
    let rows = c.args.rows.now in
    let l = at_places rows c.args.places.items in
    let is = c.as_slice-all.result.now in
    let k = c.loop-k.k in
    let at : length is - 1 - k + suc k ≡ length is = omega (arith, c.loop-k-test.true) in
    let p = err_from_is_err_and c.from_residual.result c.from_residual.ensures.1 in
    let e = c.in_err-places.field-0.0 in
    let xs = item_of c.index-all-last.result ∷ [] in
    rw (p.1, p.2) (subst (λ (items : List code.OrderItem). GivesOrder (Err e) rows (refused_at_beyond (order_values w (map item_of items) l) (sorted (order_before w (map item_of items)) l))) c.as_slice-all.ensures.value
    (gives-order e rows _ (behind-refused w is k l (at_places rows c.loop-k.places.items) c.loop-k.invariant.1 (length is - 1 - k) c.index-all-last.result at c.index-all-last.is e _ _
    (order-gives e rows _ (subst (λ (ks : List ℕ). GivesOrder (Err e) rows (refused_at_beyond (order_values w xs (at_places rows ks)) (sorted (order_before w xs) (at_places rows ks)))) c.as_slice.ensures.value c.in_err-places.ensures.mean)))))

pub returns-clause-mean : goal.returns-clause-mean
returns-clause-mean g c =
    let w = c.args.context.now.world in
    let rows = c.args.rows.now in
    let l = at_places rows c.args.places.items in
    let is = c.as_slice-all.result.now in
    let whole : c.loop-k.k ≡ length is = omega (arith, c.loop-k-test.false, c.loop-k.auto.k-end) in
    subst (λ (items : List code.OrderItem). refused_at_beyond (order_values w (map item_of items) l) (sorted (order_before w (map item_of items)) l) ≡ Some (at_places rows c.loop-k.places.items)) c.as_slice-all.ensures.value
    (behind-all w is c.loop-k.k l (at_places rows c.loop-k.places.items) c.loop-k.invariant.1 whole)
