use Rattle.std.proofs.Common.{◌+◌, ◌∙◌, ap, sym, drop, map, option_map}
use Rattle.apply_ast.specs.Trees.{pipe}
use Rattle.apply_ast.specs.Views.{inner_of, key_of, keys_from, keys_of, pipe_of, pipes_from, step_of}
use Rattle.apply_ast.proofs.ViewEquations.{step_of-GroupBy}
use Rattle.apply_ast.specs.NamedHierarchies.{branch_hierarchies, hierarchies, inner_hierarchies, key_hierarchies, keys_hierarchies, step_hierarchies}
use Rattle.hier_states.specs.States.{first_cycle}
use Rattle.hier_states.proofs.CycleFacts.{cycle-here, cycle-later, next-branch, next-key, next-step}
use Rattle.hier_states.proofs.cycles.+cycles.Goals as goal

pub cycle_in-returns-in-Some : goal.cycle_in-returns-in-Some
cycle_in-returns-in-Some t c =
    let w = c.args.store.now in
    let ss = c.steps-step-items.result.now in
    let rest = pipe (map step_of (drop (c.loop-step.step-index + 1) ss)) in
    cycle-here w (step_hierarchies (step_of c.step-item.result)) (hierarchies rest) c.in-Some.node c.in-Some.ensures
    ∙ sym (c.loop-step.invariant ∙ ap (λ p. first_cycle w (hierarchies p)) (next-step ss c.loop-step.step-index c.step-item.result c.loop-step-test.true c.step-item.is))

pub cycle_in-loop-step-preserved : goal.cycle_in-loop-step-preserved
cycle_in-loop-step-preserved t c =
    let w = c.args.store.now in
    let ss = c.steps-step-items.result.now in
    let rest = pipe (map step_of (drop (c.loop-step.step-index + 1) ss)) in
    c.loop-step.invariant ∙ ap (λ p. first_cycle w (hierarchies p)) (next-step ss c.loop-step.step-index c.step-item.result c.loop-step-test.true c.step-item.is)
    ∙ cycle-later w (step_hierarchies (step_of c.step-item.result)) (hierarchies rest) c.in_default.ensures

pub cycle_in_branches-returns-in-Some : goal.cycle_in_branches-returns-in-Some
cycle_in_branches-returns-in-Some t c =
    let w = c.args.store.now in
    let ps = c.as_slice-branch-items.result.now in
    let rest = pipes_from (map pipe_of (drop (c.loop-branch.branch-index + 1) ps)) in
    cycle-here w (hierarchies (pipe_of c.branch-item.result)) (branch_hierarchies rest) c.in-Some.node c.in-Some.ensures
    ∙ sym (c.loop-branch.invariant ∙ ap (λ p. first_cycle w (branch_hierarchies p)) (next-branch ps c.loop-branch.branch-index c.branch-item.result c.loop-branch-test.true c.branch-item.is))

pub cycle_in_branches-loop-branch-preserved : goal.cycle_in_branches-loop-branch-preserved
cycle_in_branches-loop-branch-preserved t c =
    let w = c.args.store.now in
    let ps = c.as_slice-branch-items.result.now in
    let rest = pipes_from (map pipe_of (drop (c.loop-branch.branch-index + 1) ps)) in
    c.loop-branch.invariant ∙ ap (λ p. first_cycle w (branch_hierarchies p)) (next-branch ps c.loop-branch.branch-index c.branch-item.result c.loop-branch-test.true c.branch-item.is)
    ∙ cycle-later w (hierarchies (pipe_of c.branch-item.result)) (branch_hierarchies rest) c.in_default.ensures

pub cycle_in_keys-returns-in-Some : goal.cycle_in_keys-returns-in-Some
cycle_in_keys-returns-in-Some t c =
    let w = c.args.store.now in
    let ks = c.as_slice-key-items.result.now in
    let rest = keys_from (map key_of (drop (c.loop-key.key-index + 1) ks)) in
    cycle-here w (key_hierarchies (key_of c.key-item.result)) (keys_hierarchies rest) c.in-Some.node c.in-Some.ensures
    ∙ sym (c.loop-key.invariant ∙ ap (λ p. first_cycle w (keys_hierarchies p)) (next-key ks c.loop-key.key-index c.key-item.result c.loop-key-test.true c.key-item.is))

pub cycle_in_keys-loop-key-preserved : goal.cycle_in_keys-loop-key-preserved
cycle_in_keys-loop-key-preserved t c =
    let w = c.args.store.now in
    let ks = c.as_slice-key-items.result.now in
    let rest = keys_from (map key_of (drop (c.loop-key.key-index + 1) ks)) in
    c.loop-key.invariant ∙ ap (λ p. first_cycle w (keys_hierarchies p)) (next-key ks c.loop-key.key-index c.key-item.result c.loop-key-test.true c.key-item.is)
    ∙ cycle-later w (key_hierarchies (key_of c.key-item.result)) (keys_hierarchies rest) c.in_default.ensures

pub cycle_in_step-returns-in-Some : goal.cycle_in_step-returns-in-Some
cycle_in_step-returns-in-Some t c =
    let w = c.args.store.now in
    let ks = keys_hierarchies (keys_of c.in-GroupBy.keys) in
    let rest = inner_hierarchies (inner_of (option_map pipe_of c.in-GroupBy.inner)) in
    cycle-here w ks rest c.in-Some.node c.in-Some.ensures
    ∙ sym (ap (λ s. first_cycle w (step_hierarchies s)) (ap step_of c.in-GroupBy.is ∙ step_of-GroupBy c.in-GroupBy.keys c.in-GroupBy.inner))

pub cycle_in_step-returns-in-None : goal.cycle_in_step-returns-in-None
cycle_in_step-returns-in-None t c =
    let w = c.args.store.now in
    let ks = keys_hierarchies (keys_of c.in-GroupBy.keys) in
    let rest = inner_hierarchies (inner_of (option_map pipe_of c.in-GroupBy.inner)) in
    c.cycle_in_inner.ensures ∙ sym (cycle-later w ks rest c.in-None.ensures)
    ∙ sym (ap (λ s. first_cycle w (step_hierarchies s)) (ap step_of c.in-GroupBy.is ∙ step_of-GroupBy c.in-GroupBy.keys c.in-GroupBy.inner))
