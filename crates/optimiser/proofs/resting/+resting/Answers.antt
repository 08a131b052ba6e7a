use Rattle.std.proofs.Common.{sym, ◌∙◌, ap, ◌+◌, ◌≤◌, arith, length, drop, map}
use Rattle.std.proofs.Math.ListN.{drop_of_length-le}
use Rattle.apply_ast.specs.Trees.{pipe}
use Rattle.apply_ast.specs.Views.{pipe_of, pipes_from, step_of}
use Rattle.apply_ast.proofs.ViewEquations.{pipes_of-is}
use Rattle.rewrite_forms.proofs.CutLists.{dropped-next}
use Rattle.optimiser.specs.RestForms.{place_of}
use Rattle.walk_laws.specs.Factored as spec
use Rattle.optimiser.proofs.RestLemmas.{next-branch, next-step, stop-step}
use Rattle.optimiser.proofs.resting.+resting.Goals as goal

pub steps_rest-loop-step-init : goal.steps_rest-loop-step-init
steps_rest-loop-step-init t c = ap (spec.steps_rest (place_of c.args.start)) c.steps-step-items.ensures.tree

pub steps_rest-loop-step-preserved : goal.steps_rest-loop-step-preserved
steps_rest-loop-step-preserved t c =
    let xs = c.steps-step-items.result.now in
    let i = c.loop-step.step-index in
    c.loop-step.invariant ∙ ap (λ l. spec.steps_rest (place_of c.loop-step.place) (pipe l)) (dropped-next step_of xs i c.step-item.result c.loop-step-test.true c.step-item.is)
    ∙ next-step (place_of c.loop-step.place) (place_of c.place_behind-place.result) (step_of c.step-item.result) c.step_rests.ensures c.place_behind-place.ensures (pipe (map step_of (drop (i + 1) xs))) c.if-not-step_rests.false

pub steps_rest-returns-then-not-step_rests : goal.steps_rest-returns-then-not-step_rests
steps_rest-returns-then-not-step_rests t c =
    let xs = c.steps-step-items.result.now in
    let i = c.loop-step.step-index in
    sym (c.loop-step.invariant ∙ ap (λ l. spec.steps_rest (place_of c.loop-step.place) (pipe l)) (dropped-next step_of xs i c.step-item.result c.loop-step-test.true c.step-item.is)
    ∙ stop-step (place_of c.loop-step.place) (step_of c.step-item.result) c.step_rests.ensures (pipe (map step_of (drop (i + 1) xs))) c.if-not-step_rests.true)

pub steps_rest-returns : goal.steps_rest-returns
steps_rest-returns t c =
    let xs = c.steps-step-items.result.now in
    let end : length xs ≤ c.loop-step.step-index = omega (arith, c.loop-step-test.false) in
    sym (c.loop-step.invariant ∙ ap (λ l. spec.steps_rest (place_of c.loop-step.place) (pipe (map step_of l))) (drop_of_length-le xs end))

pub branches_rest-loop-branch-init : goal.branches_rest-loop-branch-init
branches_rest-loop-branch-init t c = ap (spec.branches_rest (place_of c.args.place)) (pipes_of-is c.args.branches.now ∙ ap (λ l. pipes_from (map pipe_of l)) (sym c.as_slice-branch-items.ensures.value))

pub branches_rest-loop-branch-preserved : goal.branches_rest-loop-branch-preserved
branches_rest-loop-branch-preserved t c =
    let xs = c.as_slice-branch-items.result.now in
    let i = c.loop-branch.branch-index in
    c.loop-branch.invariant ∙ ap (λ l. spec.branches_rest (place_of c.args.place) (pipes_from l)) (dropped-next pipe_of xs i c.branch-item.result c.loop-branch-test.true c.branch-item.is)
    ∙ next-branch (place_of c.args.place) (pipe_of c.branch-item.result) c.branch_rests.ensures (pipes_from (map pipe_of (drop (i + 1) xs))) c.if-not-branch_rests.false

pub branches_rest-returns-then-not-branch_rests : goal.branches_rest-returns-then-not-branch_rests
branches_rest-returns-then-not-branch_rests t c =
    let xs = c.as_slice-branch-items.result.now in
    let i = c.loop-branch.branch-index in
    sym (c.loop-branch.invariant ∙ ap (λ l. spec.branches_rest (place_of c.args.place) (pipes_from l)) (dropped-next pipe_of xs i c.branch-item.result c.loop-branch-test.true c.branch-item.is)
    ∙ next-branch (place_of c.args.place) (pipe_of c.branch-item.result) c.branch_rests.ensures (pipes_from (map pipe_of (drop (i + 1) xs))) c.if-not-branch_rests.true)

pub branches_rest-returns : goal.branches_rest-returns
branches_rest-returns t c =
    let xs = c.as_slice-branch-items.result.now in
    let end : length xs ≤ c.loop-branch.branch-index = omega (arith, c.loop-branch-test.false) in
    sym (c.loop-branch.invariant ∙ ap (λ l. spec.branches_rest (place_of c.args.place) (pipes_from (map pipe_of l))) (drop_of_length-le xs end))
