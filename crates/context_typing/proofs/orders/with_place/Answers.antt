use Rattle.std.proofs.Common.{◌∙◌, ◌<◌, ◌++◌, ◌∷◌, [], ap, sym, subst, length, arith}
use Rattle.std.proofs.lemmas.List.{get_or_read}
use Rattle.context_typing.specs.Orders.{IsOrder}
use Rattle.context_typing.specs.Paths.{same_path}
use Rattle.context_typing.proofs.PathOrders.{place-old, place-new, read-miss, read-past}
use Rattle.context_typing.proofs.orders.with_place.Goals as goal
use Rattle.context_typing.proofs.orders.with_place.Goals.{then-at-len+else-same_path, else-at-len}

pub returns-then-same_path : goal.returns-then-same_path
returns-then-same_path c =
    let h : c.places_before-at.result < length c.args.places.items = omega arith in
    place-old c.args.columns.now c.args.places.items c.requires c.args.column.now c.deref.result.now c.names.result.now c.deref.ensures.value (c.names.ensures.names ∙ ap (λ x. x.path) c.column.view_is)
    c.places_before-at.result c.places_before-at.ensures c.index.result.now c.index-columns-index.result c.names-then-at-len.result.now c.names-then-at-len-2.result.now h
    (get_or_read c.args.places.items c.places_before-at.result c.index.result.now h c.index.ensures 0) c.index-columns-index.is (c.names-then-at-len.ensures.names ∙ ap (λ x. x.path) c.other.view_is)
    (c.names-then-at-len-2.ensures.names ∙ ap (λ x. x.path) c.column.view_is) (sym c.same_path.ensures.value ∙ c.if-same_path.true)

pub returns : goal.returns
returns c =
    subst (IsOrder (c.args.columns.now ++ c.args.column.now ∷ [])) (sym c.in_ok-insert.ensures.items)
    (place-new c.args.columns.now c.args.places.items c.requires c.args.column.now c.deref.result.now c.names.result.now c.deref.ensures.value (c.names.ensures.names ∙ ap (λ x. x.path) c.column.view_is)
    c.places_before-at.result c.places_before-at.ensures
    (elim c.if-at-len.branch [
      | then-at-len+else-same_path w ↦
          let h : c.places_before-at.result < length c.args.places.items = omega arith in
          read-miss c.args.columns.now c.args.places.items c.requires c.args.column.now.path c.places_before-at.result w.index.result.now w.index-columns-index.result w.names-then-at-len.result.now h
          (get_or_read c.args.places.items c.places_before-at.result w.index.result.now h w.index.ensures 0) w.index-columns-index.is (w.names-then-at-len.ensures.names ∙ ap (λ x. x.path) w.other.view_is)
          (ap (same_path w.names-then-at-len.result.now) (sym (w.names-then-at-len-2.ensures.names ∙ ap (λ x. x.path) c.column.view_is)) ∙ sym w.same_path.ensures.value ∙ w.if-same_path.false)
      | else-at-len w ↦ read-past c.args.columns.now c.args.places.items c.requires c.args.column.now.path c.places_before-at.result (omega arith)
    ]))
