use Rattle.std.proofs.Common.{map, Some, sym, ap, ◌∙◌, length}
use Rattle.std.proofs.lemmas.Result.{err_from_is_err_and}
use Rattle.std.proofs.lemmas.List.{map_push}
use Rattle.apply_ast.specs.Views.{item_of}
use Rattle.apply_grammar.specs.Limits.{served}
use Rattle.apply_grammar.specs.Reading.{comma_at, items_at}
use Rattle.apply_grammar.specs.PipeReading.{item_at}
use Rattle.apply_grammar.proofs.ItemLaws.{order_items}
use Rattle.apply_grammar.proofs.Lists.{front_none, list_turn, list_stop, list_fails, turn_shorter}
use Rattle.apply_grammar.proofs.Failing.{fails_on}
use Rattle.apply_grammar.proofs.items.read_more_order.Goals as goal

pub loop-behind-init : goal.loop-behind-init
loop-behind-init c = rw c.new-list.ensures.items (front_none (items_at comma_at (item_at served c.args.depth) (length c.args.text.now) c.args.text.now))

pub returns-in_err-item : goal.returns-in_err-item
returns-in_err-item c =
    let p = err_from_is_err_and c.from_residual.result c.from_residual.ensures.1 in
    rw (p.1, p.2) (fails_on c.in_err-item.field-0.0 c.in_err-item.ensures (λ h. list_fails (order_items served c.args.depth) _ _ _ _ c.in-Some.ensures h c.loop-behind.invariant))

pub loop-behind-smaller : goal.loop-behind-smaller
loop-behind-smaller c = turn_shorter (order_items served c.args.depth) _ _ _ _ c.in-Some.ensures c.in_ok-item.ensures

pub loop-behind-preserved : goal.loop-behind-preserved
loop-behind-preserved c = rw (c.in_ok-push.ensures.items, map_push item_of c.loop-behind.list.items c.in_ok-item.item) (list_turn (order_items served c.args.depth) _ _ _ _ _ _ c.in-Some.ensures c.in_ok-item.ensures c.loop-behind.invariant)

pub returns : goal.returns
returns c = list_stop comma_at (item_at served c.args.depth) _ _ _ c.in_default.ensures c.loop-behind.invariant ∙ ap (λ n. Some (map item_of n, c.loop-behind.rest.now)) (sym c.new.ensures.value)
