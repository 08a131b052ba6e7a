use Rattle.std.proofs.Common.{rules, ◌∙◌, ap, map}
use Rattle.apply_ast.specs.Views.{item_of}
use Rattle.row_orders.specs.Orders.{RankedPlace}
use Rattle.row_orders.proofs.ItemSorts.{sorted-by_item}
use Rattle.row_orders.proofs.places.places_in_order.Goals as goal

pub returns : goal.returns
returns g c =
    let ys = c.sort_by.new.self.items in
    let s = sorted-by_item (item_of c.args.item.now) c.args.keys.items ys c.in_ok-sort_by.ensures.sorted c.sort_by.ensures.stable (λ a r f' k. search rules) in
    record { list = ys; up = s.0; stable = s.1; are = c.in_ok-places_alone.ensures ∙ ap (map (λ (r : RankedPlace). r.1)) c.as_slice.ensures.value }
