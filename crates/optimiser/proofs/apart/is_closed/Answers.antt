use Rattle.std.proofs.Common.{sym, ◌∙◌, ap, ◌+◌, ◌≤◌, arith, length, drop, map}
use Rattle.std.proofs.Math.ListN.{drop_of_length-le}
use Rattle.apply_ast.specs.Trees.{pipe}
use Rattle.apply_ast.specs.Views.{step_of}
use Rattle.rewrite_forms.proofs.CutLists.{dropped-next}
use Rattle.walk_laws.specs.Apart as spec
use Rattle.optimiser.proofs.ApartLemmas.{closed-end, closed-next, closed-stop}
use Rattle.optimiser.proofs.apart.is_closed.Goals as goal

pub loop-step-init : goal.loop-step-init
loop-step-init c = ap spec.is_closed c.steps-step-items.ensures.tree

pub loop-step-preserved : goal.loop-step-preserved
loop-step-preserved c =
    let xs = c.steps-step-items.result.now in
    let i = c.loop-step.step-index in
    c.loop-step.invariant ∙ ap (λ l. spec.is_closed (pipe l)) (dropped-next step_of xs i c.step-item.result c.loop-step-test.true c.step-item.is)
    ∙ closed-next (step_of c.step-item.result) c.is_end.ensures c.if-is_end.false c.is_loose.ensures c.if-is_loose.false (pipe (map step_of (drop (i + 1) xs)))

pub returns-then-is_end : goal.returns-then-is_end
returns-then-is_end c =
    let xs = c.steps-step-items.result.now in
    let i = c.loop-step.step-index in
    sym (c.loop-step.invariant ∙ ap (λ l. spec.is_closed (pipe l)) (dropped-next step_of xs i c.step-item.result c.loop-step-test.true c.step-item.is)
    ∙ closed-end (step_of c.step-item.result) c.is_end.ensures c.if-is_end.true (pipe (map step_of (drop (i + 1) xs))))

pub returns-then-is_loose : goal.returns-then-is_loose
returns-then-is_loose c =
    let xs = c.steps-step-items.result.now in
    let i = c.loop-step.step-index in
    sym (c.loop-step.invariant ∙ ap (λ l. spec.is_closed (pipe l)) (dropped-next step_of xs i c.step-item.result c.loop-step-test.true c.step-item.is)
    ∙ closed-stop (step_of c.step-item.result) c.is_end.ensures c.if-is_end.false c.is_loose.ensures c.if-is_loose.true (pipe (map step_of (drop (i + 1) xs))))

pub returns : goal.returns
returns c =
    let xs = c.steps-step-items.result.now in
    let end : length xs ≤ c.loop-step.step-index = omega (arith, c.loop-step-test.false) in
    sym (c.loop-step.invariant ∙ ap (λ l. spec.is_closed (pipe (map step_of l))) (drop_of_length-le xs end))
