use Rattle.std.proofs.Common.{sym, ◌∙◌, ap, ◌+◌, ◌≤◌, not, arith, length, drop, map}
use Rattle.std.proofs.Math.ListN.{drop_of_length-le}
use Rattle.apply_ast.specs.Trees.{pipe}
use Rattle.apply_ast.specs.Views.{step_of}
use Rattle.rewrite_forms.proofs.CutLists.{dropped-next}
use Rattle.walk_laws.specs.FiltersOut as spec
use Rattle.optimiser.proofs.LastingLemmas.{lasts-next, lasts-stop}
use Rattle.optimiser.proofs.lasting.lasts.Goals as goal

pub loop-step-init : goal.loop-step-init
loop-step-init c = ap spec.lasts c.steps-step-items.ensures.tree

pub loop-step-preserved : goal.loop-step-preserved
loop-step-preserved c =
    let xs = c.steps-step-items.result.now in
    let i = c.loop-step.step-index in
    c.loop-step.invariant ∙ ap (λ l. spec.lasts (pipe l)) (dropped-next step_of xs i c.step-item.result c.loop-step-test.true c.step-item.is)
    ∙ lasts-next (step_of c.step-item.result) c.may_go.ensures c.if-not-may_go.false (pipe (map step_of (drop (i + 1) xs)))

pub returns-then-not-may_go : goal.returns-then-not-may_go
returns-then-not-may_go c =
    let xs = c.steps-step-items.result.now in
    let i = c.loop-step.step-index in
    ap not c.is_aggregate.ensures
    ∙ sym (c.loop-step.invariant ∙ ap (λ l. spec.lasts (pipe l)) (dropped-next step_of xs i c.step-item.result c.loop-step-test.true c.step-item.is)
    ∙ lasts-stop (step_of c.step-item.result) c.may_go.ensures c.if-not-may_go.true (pipe (map step_of (drop (i + 1) xs))))

pub returns : goal.returns
returns c =
    let xs = c.steps-step-items.result.now in
    let end : length xs ≤ c.loop-step.step-index = omega (arith, c.loop-step-test.false) in
    sym (c.loop-step.invariant ∙ ap (λ l. spec.lasts (pipe (map step_of l))) (drop_of_length-le xs end))
