use Rattle.std.proofs.Common.{◌∙◌, ap, refl, arith}
use Rattle.context_typing.proofs.PathOrders.{leads-here, leads-nowhere}
use Rattle.context_typing.proofs.orders.any_begins_with.Goals as goal

pub returns-then-at-places : goal.returns-then-at-places
returns-then-at-places c =
    c.is_prefix.ensures
    ∙ leads-here c.args.columns.now c.args.places.now c.requires c.args.path.now c.places_before-at.result c.places_before-at.ensures _ c.index-columns-places.result c.names.result.now
    (omega arith) refl c.index-columns-places.is (c.names.ensures.names ∙ ap (λ x. x.path) c.column.view_is)

pub returns-else-at-places : goal.returns-else-at-places
returns-else-at-places c = leads-nowhere c.args.columns.now c.args.places.now c.requires c.args.path.now c.places_before-at.result c.places_before-at.ensures (omega arith)
