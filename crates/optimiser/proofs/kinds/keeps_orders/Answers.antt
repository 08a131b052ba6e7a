use Rattle.std.proofs.Common.{sym, ◌∙◌, ap, ◌+◌, ◌≤◌, not, arith, length, drop, map}
use Rattle.std.proofs.Math.ListN.{drop_of_length-le}
use Rattle.apply_ast.specs.Trees.{pipe}
use Rattle.apply_ast.specs.Views.{step_of}
use Rattle.rewrite_forms.proofs.CutLists.{dropped-next}
use Rattle.walk_laws.specs.Apart as spec
use Rattle.optimiser.proofs.KindLemmas.{orders-next, orders-stop}
use Rattle.optimiser.proofs.kinds.keeps_orders.Goals as goal

pub loop-step-init : goal.loop-step-init
loop-step-init c = ap spec.keeps_orders c.steps-step-items.ensures.tree

pub loop-step-preserved : goal.loop-step-preserved
loop-step-preserved c =
    let xs = c.steps-step-items.result.now in
    let i = c.loop-step.step-index in
    c.loop-step.invariant ∙ ap (λ l. spec.keeps_orders (pipe l)) (dropped-next step_of xs i c.step-item.result c.loop-step-test.true c.step-item.is)
    ∙ orders-next (step_of c.step-item.result) c.is_ordering.ensures c.if-not-is_ordering.false (pipe (map step_of (drop (i + 1) xs)))

pub returns-then-not-is_ordering : goal.returns-then-not-is_ordering
returns-then-not-is_ordering c =
    let xs = c.steps-step-items.result.now in
    let i = c.loop-step.step-index in
    ap not c.is_aggregate.ensures
    ∙ sym (c.loop-step.invariant ∙ ap (λ l. spec.keeps_orders (pipe l)) (dropped-next step_of xs i c.step-item.result c.loop-step-test.true c.step-item.is)
    ∙ orders-stop (step_of c.step-item.result) c.is_ordering.ensures c.if-not-is_ordering.true (pipe (map step_of (drop (i + 1) xs))))

pub returns : goal.returns
returns c =
    let xs = c.steps-step-items.result.now in
    let end : length xs ≤ c.loop-step.step-index = omega (arith, c.loop-step-test.false) in
    sym (c.loop-step.invariant ∙ ap (λ l. spec.keeps_orders (pipe (map step_of l))) (drop_of_length-le xs end))
