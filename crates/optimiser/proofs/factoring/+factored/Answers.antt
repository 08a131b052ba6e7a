use Rattle.std.proofs.Common.{sym, ◌∙◌, ap, arith, ◌≤◌, ◌++◌, length, map}
use Rattle.apply_ast.specs.Trees.{pipe}
use Rattle.apply_ast.specs.Views.{pipe_of, pipes_from, pipes_of, step_of}
use Rattle.apply_ast.proofs.ViewEquations.{pipes_of-is}
use Rattle.optimiser.specs.RestForms.{lists_of}
use Rattle.walk_laws.specs.Factored as spec
use Rattle.optimiser.proofs.FactorLemmas.{branches-end, made-more, steps-end, steps-more}
use Rattle.optimiser.proofs.factoring.+factored.Goals as goal

-- ---- steps

pub factored_steps-loop-step-init : goal.factored_steps-loop-step-init
factored_steps-loop-step-init t c =
    ap spec.factored_steps c.steps-step-items.ensures.tree
    ∙ ap (λ l. map step_of l ++ spec.factored_steps (pipe (map step_of c.steps-step-items.result.now))) (sym c.new-made.ensures.items)

pub factored_steps-loop-step-preserved : goal.factored_steps-loop-step-preserved
factored_steps-loop-step-preserved t c =
    c.loop-step.invariant
    ∙ steps-more step_of c.steps-step-items.result.now c.loop-step.step-index c.step-item.result (map step_of c.loop-step.made.items) (map step_of c.put_factored.new.made.items) c.loop-step-test.true c.step-item.is c.in_ok-put_factored.ensures

pub factored_steps-returns : goal.factored_steps-returns
factored_steps-returns t c =
    let xs = c.steps-step-items.result.now in
    let end : length xs ≤ c.loop-step.step-index = omega (arith, c.loop-step-test.false) in
    sym (c.loop-step.invariant ∙ steps-end step_of xs c.loop-step.step-index (map step_of c.loop-step.made.items) end)

-- ---- branches

pub factored_branches-loop-branch-preserved : goal.factored_branches-loop-branch-preserved
factored_branches-loop-branch-preserved t c =
    ap lists_of c.in_ok-push.ensures.items
    ∙ made-more (λ v. map step_of v.items) (λ p. spec.factored_steps (pipe_of p)) c.as_slice-branch-items.result.now c.loop-branch.lists.items c.loop-branch.branch-index c.branch-item.result c.in_ok-factored_steps.field-0 c.loop-branch-test.true c.branch-item.is c.loop-branch.invariant
    c.in_ok-factored_steps.ensures

pub factored_branches-returns : goal.factored_branches-returns
factored_branches-returns t c =
    let xs = c.as_slice-branch-items.result.now in
    let end : length xs ≤ c.loop-branch.branch-index = omega (arith, c.loop-branch-test.false) in
    branches-end pipe_of xs c.loop-branch.branch-index (lists_of c.loop-branch.lists.items) (pipes_of c.args.branches.now) end c.loop-branch.invariant (pipes_of-is c.args.branches.now ∙ ap (λ l. pipes_from (map pipe_of l)) (sym c.as_slice-branch-items.ensures.value))
