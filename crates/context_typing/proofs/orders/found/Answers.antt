use Rattle.std.proofs.Common.{◌∙◌, ap, sym, refl, arith}
use Rattle.context_typing.proofs.PathOrders.{found-hit, found-miss, read-miss, read-past}
use Rattle.context_typing.proofs.orders.found.Goals as goal
use Rattle.context_typing.proofs.orders.found.Goals.{then-at-places+else-same_path, else-at-places}

pub returns-then-same_path : goal.returns-then-same_path
returns-then-same_path c =
    found-hit c.args.columns.now c.args.places.now c.requires c.args.path.now c.places_before-at.result c.places_before-at.ensures _ c.index-columns-places.result c.names.result.now
    (omega arith) refl c.index-columns-places.is (c.names.ensures.names ∙ ap (λ x. x.path) c.column.view_is) (sym c.same_path.ensures.value ∙ c.if-same_path.true)

pub returns : goal.returns
returns c =
    found-miss c.args.columns.now c.args.places.now c.requires c.args.path.now c.places_before-at.result c.places_before-at.ensures
    (elim c.if-at-places.branch [
      | then-at-places+else-same_path w ↦ read-miss c.args.columns.now c.args.places.now c.requires c.args.path.now c.places_before-at.result _ w.index-columns-places.result w.names.result.now
          (omega arith) refl w.index-columns-places.is (w.names.ensures.names ∙ ap (λ x. x.path) w.column.view_is) (sym w.same_path.ensures.value ∙ w.if-same_path.false)
      | else-at-places w ↦ read-past c.args.columns.now c.args.places.now c.requires c.args.path.now c.places_before-at.result (omega arith)
    ])
