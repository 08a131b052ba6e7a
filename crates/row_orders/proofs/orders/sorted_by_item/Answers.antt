use Rattle.std.proofs.Common.{rules, ◌≡◌, ◌∙◌, [], ◌∷◌, ap, sym, subst, map, Some, List}
use Rattle.std.specs.List.Sorted.{IsStableBy}
use Rattle.std.proofs.lemmas.Result.{err_from_is_err_and}
use Rattle.edm_values.specs.Lists.{sorted}
use Rattle.apply_ast.specs.Views.{item_of}
use Rattle.apply_meaning.specs.Meaning.{order_before}
use Rattle.row_orders.proofs.ItemSorts.{sorted-by_item}
use Rattle.row_orders.proofs.OrderLemmas.{all-sure, beyond-refused, ranked-sorted}
use Rattle.row_orders.specs.Orders.{RankedRow, before}
use Rattle.row_orders.proofs.orders.sorted_by_item.Goals as goal

pub returns-in_err-ranked : goal.returns-in_err-ranked
returns-in_err-ranked c =
    let p = err_from_is_err_and c.from_residual.result c.from_residual.ensures.1 in
    rw (p.1, p.2) (beyond-refused c.in_err-ranked.field-0.0 c.args.store.now (item_of c.args.item.now ∷ []) c.args.rows.items _ c.in_err-ranked.ensures)

pub returns : goal.returns
returns c =
    let w = c.args.store.now in
    let l = c.args.rows.items in
    let xs = item_of c.args.item.now ∷ [] in
    let ys = c.sort_by.new.self.items in
    let s = sorted-by_item (item_of c.args.item.now) c.in_ok-ranked.ranked.items ys c.in_ok-sort_by.ensures.sorted c.sort_by.ensures.stable (λ a r f' k. search rules) in
    let ordered : map (λ x. x.1) ys ≡ sorted (order_before w xs) l = ranked-sorted w xs l ys s.0 (subst (λ (zs : List RankedRow). IsStableBy (before xs) zs ys) c.in_ok-ranked.ensures.0 s.1) in
    all-sure w xs l (sorted (order_before w xs) l) c.in_ok-ranked.ensures.1 ∙ ap Some (sym ordered) ∙ ap Some (sym c.in_ok-rows_of.ensures)
