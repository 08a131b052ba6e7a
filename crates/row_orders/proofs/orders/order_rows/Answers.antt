use Rattle.std.proofs.Common.{◌≡◌, ◌+◌, ◌-◌, suc, subst, map, length, Some, Err, List, arith}
use Rattle.std.proofs.lemmas.Result.{err_from_is_err_and}
use Rattle.edm_values.specs.Lists.{sorted}
use Rattle.apply_ast.specs.Views.{item_of}
use Rattle.apply_ast.specs.declared.items.OrderItem as code
use Rattle.apply_meaning.specs.Meaning.{order_before, order_values, refused_at_beyond}
use Rattle.apply_meaning.specs.Running.{Gives}
use Rattle.row_orders.proofs.ItemSorts.{behind-all, behind-more, behind-none, behind-refused}
use Rattle.row_orders.proofs.orders.order_rows.Goals as goal

pub loop-k-init : goal.loop-k-init
loop-k-init c = behind-none c.args.store.now c.as_slice-all.result.now c.args.rows.items c.requires

pub loop-k-preserved : goal.loop-k-preserved
loop-k-preserved c =
    let is = c.as_slice-all.result.now in
    let k = c.loop-k.k in
    let at : length is - 1 - k + suc k ≡ length is = omega (arith, c.loop-k-test.true) in
    behind-more c.args.store.now is k c.args.rows.items c.loop-k.rows.items c.loop-k.invariant (length is - 1 - k) c.index-all-last.result at c.index-all-last.is c.in_ok-rows.rows.items c.in_ok-rows.ensures

pub returns-in_err-rows : goal.returns-in_err-rows
returns-in_err-rows c =
    record {
      value = let w = c.args.store.now in
          let l = c.args.rows.items in
          let is = c.as_slice-all.result.now in
          let k = c.loop-k.k in
          let at : length is - 1 - k + suc k ≡ length is = omega (arith, c.loop-k-test.true) in
          let p = err_from_is_err_and c.from_residual.result c.from_residual.ensures.1 in
          rw (p.1, p.2) (subst (λ (items : List code.OrderItem). Gives (Err c.in_err-rows.field-0.0) (refused_at_beyond (order_values w (map item_of items) l) (sorted (order_before w (map item_of items)) l))) c.as_slice-all.ensures.value
          (behind-refused w is k l c.loop-k.rows.items c.loop-k.invariant (length is - 1 - k) c.index-all-last.result at c.index-all-last.is c.in_err-rows.field-0.0 _ _ c.in_err-rows.ensures));
    }

pub returns : goal.returns
returns c =
    record {
      value = let w = c.args.store.now in
          let l = c.args.rows.items in
          let is = c.as_slice-all.result.now in
          let whole : c.loop-k.k ≡ length is = omega (arith, c.loop-k-test.false, c.loop-k.auto.k-end) in
          subst (λ (items : List code.OrderItem). refused_at_beyond (order_values w (map item_of items) l) (sorted (order_before w (map item_of items)) l) ≡ Some c.loop-k.rows.items) c.as_slice-all.ensures.value
          (behind-all w is c.loop-k.k l c.loop-k.rows.items c.loop-k.invariant whole);
    }
