use Rattle.std.proofs.Common.{◌≡◌, ◌+◌, ◌-◌, suc, subst, map, length, Some, List, arith}
use Rattle.std.specs.Prelude.{Err}
use Rattle.std.proofs.lemmas.Result.{err_from_is_err_and}
use Rattle.edm_values.specs.Lists.{sorted}
use Rattle.apply_ast.specs.Views.{item_of}
use Rattle.apply_ast.specs.declared.items.OrderItem as code
use Rattle.apply_meaning.specs.Meaning.{order_before, order_values, refused_at_beyond}
use Rattle.row_frames.specs.Frames.{GivesFrame}
use Rattle.row_orders.proofs.ItemSorts.{behind-all, behind-more, behind-none, behind-refused}
use Rattle.frame_run.proofs.FrameSteps.{frame-gives, gives-frame}
use Rattle.frame_run.proofs.frame_steps.frame_ordered.Goals as goal

pub loop-k-init : goal.loop-k-init
loop-k-init g c = behind-none c.args.store.now c.as_slice-all.result.now c.args.frame c.requires.of

pub loop-k-preserved : goal.loop-k-preserved
loop-k-preserved g c =
    let is = c.as_slice-all.result.now in
    let k = c.loop-k.k in
    let at : length is - 1 - k + suc k ≡ length is = omega (arith, c.loop-k-test.true) in
    behind-more c.args.store.now is k c.args.frame c.loop-k.frame c.loop-k.invariant (length is - 1 - k) c.index-all-last.result at c.index-all-last.is c.in_ok-frame.frame c.in_ok-frame.ensures

pub returns-in_err-frame : goal.returns-in_err-frame
returns-in_err-frame g c =
    let w = c.args.store.now in
    let l = c.args.frame in
    let is = c.as_slice-all.result.now in
    let k = c.loop-k.k in
    let at : length is - 1 - k + suc k ≡ length is = omega (arith, c.loop-k-test.true) in
    let p = err_from_is_err_and c.from_residual.result c.from_residual.ensures.1 in
    let e = c.in_err-frame.field-0.0 in
    rw (p.1, p.2) (subst (λ (items : List code.OrderItem). GivesFrame (Err e) (refused_at_beyond (order_values w (map item_of items) l) (sorted (order_before w (map item_of items)) l))) c.as_slice-all.ensures.value
    (gives-frame e _ (behind-refused w is k l c.loop-k.frame c.loop-k.invariant (length is - 1 - k) c.index-all-last.result at c.index-all-last.is e _ _ (frame-gives e _ c.in_err-frame.ensures))))

pub returns : goal.returns
returns g c =
    let w = c.args.store.now in
    let l = c.args.frame in
    let is = c.as_slice-all.result.now in
    let whole : c.loop-k.k ≡ length is = omega (arith, c.loop-k-test.false, c.loop-k.auto.k-end) in
    subst (λ (items : List code.OrderItem). refused_at_beyond (order_values w (map item_of items) l) (sorted (order_before w (map item_of items)) l) ≡ Some c.loop-k.frame) c.as_slice-all.ensures.value
    (behind-all w is c.loop-k.k l c.loop-k.frame c.loop-k.invariant whole)
