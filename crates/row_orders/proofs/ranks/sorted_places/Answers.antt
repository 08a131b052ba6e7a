use Rattle.std.proofs.Common.{rules, List, map, subst}
use Rattle.std.specs.List.Sorted.{IsStableBy}
use Rattle.apply_ast.specs.Views.{item_of}
use Rattle.row_orders.specs.Orders.{RankedPlace, before}
use Rattle.row_orders.proofs.OrderLemmas.{sorted-by_values}
use Rattle.row_orders.proofs.ranks.sorted_places.Goals as goal

pub returns : goal.returns
returns c =
    let xs = map item_of c.args.items.now in
    let ys = c.sort_by.new.self.items in
    let s = sorted-by_values xs c.in_ok-placed.placed.items ys c.in_ok-sort_by.ensures.sorted c.sort_by.ensures.stable (λ a r f' k. search rules) in
    (s.0, subst (λ (zs : List RankedPlace). IsStableBy (before xs) zs ys) c.in_ok-placed.ensures.0 s.1, c.in_ok-placed.ensures.1)
