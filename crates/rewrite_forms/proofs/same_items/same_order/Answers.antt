use Rattle.std.proofs.Common.{sym, ◌∙◌, arith}
use Rattle.std.specs.Cmp.Derive.Mapped.{pointwise-map}
use Rattle.apply_ast.specs.Views.{item_of}
use Rattle.rewrite_laws.specs.TreeEquality.{item_same}
use Rattle.rewrite_forms.proofs.SameLists.{same-end, same-next, same-stop}
use Rattle.rewrite_forms.proofs.same_items.same_order.Goals as goal

pub loop-i-preserved : goal.loop-i-preserved
loop-i-preserved c = same-next (λ x y. item_same (item_of x) (item_of y)) c.args.a.now c.args.b.now c.loop-i.i c.index-a-i.result c.index-b-i.result (omega arith) c.index-a-i.is (omega arith) c.index-b-i.is c.loop-i.invariant (sym c.same_item.ensures ∙ c.if-not-same_item.false)

pub returns-then-not-same_item : goal.returns-then-not-same_item
returns-then-not-same_item c =
    same-stop (λ x y. item_same (item_of x) (item_of y)) c.args.a.now c.args.b.now c.loop-i.i c.index-a-i.result c.index-b-i.result (omega arith) c.index-a-i.is (omega arith) c.index-b-i.is c.loop-i.invariant (sym c.same_item.ensures ∙ c.if-not-same_item.true)
    ∙ sym (pointwise-map item_of item_same c.args.a.now c.args.b.now)

pub returns : goal.returns
returns c =
    same-end (λ x y. item_same (item_of x) (item_of y)) c.args.a.now c.args.b.now c.loop-i.i (omega arith) (omega arith) c.loop-i.invariant ∙ sym (pointwise-map item_of item_same c.args.a.now c.args.b.now)
