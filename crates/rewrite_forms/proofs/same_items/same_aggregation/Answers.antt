use Rattle.std.proofs.Common.{sym, ◌∙◌, arith}
use Rattle.std.specs.Cmp.Derive.Mapped.{pointwise-map}
use Rattle.apply_ast.specs.Views.{agg_of}
use Rattle.rewrite_laws.specs.TreeEquality.{agg_same}
use Rattle.rewrite_forms.proofs.SameLists.{same-end, same-next, same-stop}
use Rattle.rewrite_forms.proofs.same_items.same_aggregation.Goals as goal

pub loop-i-preserved : goal.loop-i-preserved
loop-i-preserved c = same-next (λ x y. agg_same (agg_of x) (agg_of y)) c.args.a.now c.args.b.now c.loop-i.i c.index-a-i.result c.index-b-i.result (omega arith) c.index-a-i.is (omega arith) c.index-b-i.is c.loop-i.invariant (sym c.same_agg.ensures ∙ c.if-not-same_agg.false)

pub returns-then-not-same_agg : goal.returns-then-not-same_agg
returns-then-not-same_agg c =
    same-stop (λ x y. agg_same (agg_of x) (agg_of y)) c.args.a.now c.args.b.now c.loop-i.i c.index-a-i.result c.index-b-i.result (omega arith) c.index-a-i.is (omega arith) c.index-b-i.is c.loop-i.invariant (sym c.same_agg.ensures ∙ c.if-not-same_agg.true)
    ∙ sym (pointwise-map agg_of agg_same c.args.a.now c.args.b.now)

pub returns : goal.returns
returns c =
    same-end (λ x y. agg_same (agg_of x) (agg_of y)) c.args.a.now c.args.b.now c.loop-i.i (omega arith) (omega arith) c.loop-i.invariant ∙ sym (pointwise-map agg_of agg_same c.args.a.now c.args.b.now)
