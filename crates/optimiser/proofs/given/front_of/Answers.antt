use Rattle.std.proofs.Common.{sym, ◌∙◌, ap, ◌+◌, ◌≤◌, arith, length, drop, map}
use Rattle.std.proofs.Math.ListN.{drop_of_length-le}
use Rattle.apply_ast.specs.Trees.{pipe}
use Rattle.apply_ast.specs.Views.{step_of}
use Rattle.rewrite_forms.proofs.CutLists.{dropped-next}
use Rattle.walk_laws.specs.FiltersOut as spec
use Rattle.optimiser.proofs.GivenLemmas.{front-next, front-stop}
use Rattle.optimiser.proofs.given.front_of.Goals as goal

pub loop-step-init : goal.loop-step-init
loop-step-init c = ap spec.front_of c.steps-step-items.ensures.tree

pub loop-step-preserved : goal.loop-step-preserved
loop-step-preserved c =
    let xs = c.steps-step-items.result.now in
    let i = c.loop-step.step-index in
    c.loop-step.invariant ∙ ap (λ l. spec.front_of (pipe l)) (dropped-next step_of xs i c.step-item.result c.loop-step-test.true c.step-item.is)
    ∙ front-next (step_of c.step-item.result) c.is_loose.ensures c.if-not-is_loose.false (pipe (map step_of (drop (i + 1) xs)))

pub returns-then-not-is_loose : goal.returns-then-not-is_loose
returns-then-not-is_loose c =
    let xs = c.steps-step-items.result.now in
    let i = c.loop-step.step-index in
    sym (c.loop-step.invariant ∙ ap (λ l. spec.front_of (pipe l)) (dropped-next step_of xs i c.step-item.result c.loop-step-test.true c.step-item.is)
    ∙ front-stop (step_of c.step-item.result) c.is_loose.ensures c.if-not-is_loose.true (pipe (map step_of (drop (i + 1) xs))))

pub returns : goal.returns
returns c =
    let xs = c.steps-step-items.result.now in
    let end : length xs ≤ c.loop-step.step-index = omega (arith, c.loop-step-test.false) in
    sym (c.loop-step.invariant ∙ ap (λ l. spec.front_of (pipe (map step_of l))) (drop_of_length-le xs end))
