use Rattle.std.proofs.Common.{rules, ◌≡◌, sym, ◌∙◌, ap, true}
use Rattle.std.proofs.lemmas.Result.{on_ok_weaker}
use Rattle.apply_ast.specs.Trees.{Expr}
use Rattle.apply_ast.specs.Views.{expr_of}
use Rattle.apply_ast.specs.declared.expressions.BinOp.TheVariants as BinOp
use Rattle.context_typing.specs.Typing.{is_sure}
use Rattle.walk_laws.specs.Walks as spec
use Rattle.optimiser.specs.HeldSegments.{segments_of}
use Rattle.optimiser.proofs.HeldLists.{put-both}
use Rattle.optimiser.proofs.putting.+put_filter.Goals as goal

pub returns-in_ok-put_filter-in-Binary-And-default-default-clause-value :
    goal.returns-in_ok-put_filter-in-Binary-And-default-default-clause-value
returns-in_ok-put_filter-in-Binary-And-default-default-clause-value t c w =
    let m = c.args.m.now in
    let S = c.args.shape.now in
    let gs = segments_of m w c.args.segments.now.items in
    let in' = c.in-Binary-And-default-default in
    let a = expr_of in'.a.value in
    let b = expr_of in'.b.value in
    let whole : expr_of c.args.e ≡ Expr.Binary BinOp.And a b = ap expr_of in'.is ∙ ap (λ o. Expr.Binary o a b) in'.field-0-is in
    let sure : is_sure m S b ≡ true = ap (λ x. is_sure m S (expr_of x)) (sym c.deref.ensures) ∙ sym c.is_sure.ensures.value ∙ c.if-is_sure.true in
    on_ok_weaker c.put_filter-then-is_sure.result
    (λ p. p
    ∙ ap (spec.put_filter m S (expr_of c.into_inner-then-is_sure.result)) (c.in_ok-put_filter-in-Binary-And-default-default.ensures.value w)
    ∙ (λ i. spec.put_filter m S (expr_of (c.into_inner-then-is_sure.ensures i)) (spec.put_filter m S (expr_of (c.into_inner.ensures i)) gs))
    ∙ put-both m S a b gs sure
    ∙ ap (λ e. spec.put_filter m S e gs) (sym whole))
    (c.put_filter-then-is_sure.ensures.value w)

pub returns-in_default-clause-value : goal.returns-in_default-clause-value
returns-in_default-clause-value t c w =
    let h = c.put_part-in_default.ensures.value w in
    search rules
