use Rattle.std.proofs.Common.{◌∙◌, ap, sym, map, drop, ◌+◌}
use Rattle.std.specs.Ordering.{ordering_then}
use Rattle.apply_ast.specs.Views.{item_of}
use Rattle.row_orders.specs.Orders.{values_cmp, item_cmp}
use Rattle.row_orders.proofs.OrderLemmas.{next-order, passed}
use Rattle.row_orders.proofs.values.values_order.Goals as goal

pub loop-k-preserved : goal.loop-k-preserved
loop-k-preserved c =
    let k = c.loop-k.k in
    let d = c.index-items-k.result in
    let rest = values_cmp (map item_of (drop (k + 1) c.args.items.now)) (drop (k + 1) c.args.a.now) (drop (k + 1) c.args.b.now) in
    c.loop-k.invariant
    ∙ next-order c.args.items.now c.args.a.now c.args.b.now k d c.loop-k-test.true c.index-items-k.is
    ∙ (λ i. ordering_then (item_cmp d.desc (sym c.value_at.ensures i) (sym c.value_at-in-loop-k.ensures i)) rest)
    ∙ ap (λ o. ordering_then o rest) (sym c.item_order-found.ensures)
    ∙ passed c.item_order-found.result rest (sym c.is_ne.ensures ∙ c.if-is_ne.false)
