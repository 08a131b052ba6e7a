use Rattle.std.proofs.Common.{◌≡◌, sym, ◌∙◌, ap, arith, ◌≤◌, ◌++◌, [], ◌∷◌, length, map}
use Rattle.apply_ast.specs.Trees.{Key, Step, pipe}
use Rattle.std.proofs.lemmas.Result.{IfOk-weaker}
use Rattle.apply_ast.specs.Views.{hier_of, key_of, keys_from, keys_of, pipe_of, pipes_from, pipes_of, step_of}
use Rattle.apply_ast.proofs.ViewEquations.{climb_of-is, join_of-is, join_of-parts, key_of-Plain, key_of-Recursive, key_of-Rollup, keys_of-is, pipes_of-is}
use Rattle.apply_ast.specs.declared.steps.JoinStep.{out-JoinStep}
use Rattle.optimiser.specs.RestForms.{lists_of}
use Rattle.walk_laws.specs.Factored as spec
use Rattle.optimiser.proofs.FactorLemmas.{made-more}
use Rattle.optimiser.proofs.WithinLemmas.{branches-end, keys-end, steps-end, steps-more}
use Rattle.optimiser.proofs.within.+within.Goals as goal

-- ---- steps

pub inside_steps-loop-step-init : goal.inside_steps-loop-step-init
inside_steps-loop-step-init t c =
    ap spec.inside_steps c.steps-step-items.ensures.tree
    ∙ ap (λ l. map step_of l ++ spec.inside_steps (pipe (map step_of c.steps-step-items.result.now))) (sym c.new-made.ensures.items)

pub inside_steps-loop-step-preserved : goal.inside_steps-loop-step-preserved
inside_steps-loop-step-preserved t c =
    c.loop-step.invariant
    ∙ steps-more step_of c.steps-step-items.result.now c.loop-step.step-index c.step-item.result (map step_of c.loop-step.made.items) (map step_of c.put_inside.new.made.items) c.loop-step-test.true c.step-item.is c.in_ok-put_inside.ensures

pub inside_steps-returns : goal.inside_steps-returns
inside_steps-returns t c =
    let xs = c.steps-step-items.result.now in
    let end : length xs ≤ c.loop-step.step-index = omega (arith, c.loop-step-test.false) in
    sym (c.loop-step.invariant ∙ steps-end step_of xs c.loop-step.step-index (map step_of c.loop-step.made.items) end)

-- ---- branches

pub inside_branches-loop-branch-preserved : goal.inside_branches-loop-branch-preserved
inside_branches-loop-branch-preserved t c =
    ap lists_of c.in_ok-push.ensures.items
    ∙ made-more (λ v. map step_of v.items) (λ p. spec.inside_steps (pipe_of p)) c.as_slice-branch-items.result.now c.loop-branch.lists.items c.loop-branch.branch-index c.branch-item.result c.in_ok-inside_steps.field-0 c.loop-branch-test.true c.branch-item.is c.loop-branch.invariant
    c.in_ok-inside_steps.ensures

pub inside_branches-returns : goal.inside_branches-returns
inside_branches-returns t c =
    let xs = c.as_slice-branch-items.result.now in
    let end : length xs ≤ c.loop-branch.branch-index = omega (arith, c.loop-branch-test.false) in
    branches-end pipe_of xs c.loop-branch.branch-index (lists_of c.loop-branch.lists.items) (pipes_of c.args.branches.now) end c.loop-branch.invariant (pipes_of-is c.args.branches.now ∙ ap (λ l. pipes_from (map pipe_of l)) (sym c.as_slice-branch-items.ensures.value))

-- ---- joins

pub inside_join-returns : goal.inside_join-returns
inside_join-returns t c =
    let j = out-JoinStep c.args.join.now in
    ap spec.inside_step (join_of-is c.args.join.now)
    ∙ (λ i. Step.Join j.outer (sym c.in_ok-copy.ensures.value i) (sym c.in_ok-copy-2.ensures.value i) (sym c.in_ok-inside_inner.ensures i) ∷ [])
    ∙ ap (λ s. s ∷ []) (sym (join_of-parts j.outer c.in_ok-copy.field-0 c.in_ok-copy-2.field-0 c.in_ok-inside_inner.field-0))

-- ---- climbs

pub inside_climb-returns : goal.inside_climb-returns
inside_climb-returns t c =
    let k = c.args.climb.now in
    ap spec.inside_step (climb_of-is k)
    ∙ ap (λ s. s ∷ []) (sym (climb_of-is _ ∙ (λ i. Step.Climb k.up (hier_of (c.in_ok-copy.ensures.value i)) (c.in_ok-copy-2.ensures.value i) (c.in_ok-inside_pipe.ensures i) k.distance k.keep)))

-- ---- keys

pub inside_key-returns-in-Plain : goal.inside_key-returns-in-Plain
inside_key-returns-in-Plain t c =
    let is = ap key_of c.in-Plain.is ∙ key_of-Plain c.in-Plain.field-0 in
    IfOk-weaker c.copy-in-Plain.result (λ k. key_of k ≡ key_of c.args.key.now) (λ k. key_of k ≡ spec.inside_key (key_of c.args.key.now)) (λ k e. e ∙ is ∙ sym (ap spec.inside_key is)) c.copy-in-Plain.ensures.value

pub inside_key-returns-in-Rollup : goal.inside_key-returns-in-Rollup
inside_key-returns-in-Rollup t c =
    let is = ap key_of c.in-Rollup.is ∙ key_of-Rollup c.in-Rollup.field-0 c.in-Rollup.field-1 in
    IfOk-weaker c.copy-in-Rollup.result (λ k. key_of k ≡ key_of c.args.key.now) (λ k. key_of k ≡ spec.inside_key (key_of c.args.key.now)) (λ k e. e ∙ is ∙ sym (ap spec.inside_key is)) c.copy-in-Rollup.ensures.value

pub inside_key-returns-in_ok-copy-in-Recursive : goal.inside_key-returns-in_ok-copy-in-Recursive
inside_key-returns-in_ok-copy-in-Recursive t c =
    key_of-Recursive c.in_ok-hier-in-Recursive.hier c.in_ok-copy-in-Recursive.field-0 c.in_ok-nodes-in-Recursive.nodes
    ∙ (λ i. Key.Recursive (hier_of (c.in_ok-hier-in-Recursive.ensures.value i)) (c.in_ok-copy-in-Recursive.ensures.value i) (c.in_ok-nodes-in-Recursive.ensures i))
    ∙ sym (ap spec.inside_key (ap key_of c.in-Recursive.is ∙ key_of-Recursive c.in-Recursive.hier c.in-Recursive.path c.in-Recursive.inner))

pub inside_keys-loop-key-preserved : goal.inside_keys-loop-key-preserved
inside_keys-loop-key-preserved t c =
    ap (map key_of) c.in_ok-push.ensures.items
    ∙ made-more key_of (λ k. spec.inside_key (key_of k)) c.as_slice-key-items.result.now c.loop-key.made.items c.loop-key.key-index c.key-item.result c.in_ok-inside_key.field-0 c.loop-key-test.true c.key-item.is c.loop-key.invariant
    c.in_ok-inside_key.ensures

pub inside_keys-returns : goal.inside_keys-returns
inside_keys-returns t c =
    let xs = c.as_slice-key-items.result.now in
    let ys = c.loop-key.made.items in
    let end : length xs ≤ c.loop-key.key-index = omega (arith, c.loop-key-test.false) in
    keys-end key_of xs c.loop-key.key-index (map key_of ys) (keys_of c.args.keys.now) (keys_of c.new.result) end c.loop-key.invariant (keys_of-is c.args.keys.now ∙ ap (λ l. keys_from (map key_of l)) (sym c.as_slice-key-items.ensures.value))
    (keys_of-is c.new.result ∙ ap (λ l. keys_from (map key_of l)) c.new.ensures.value)
