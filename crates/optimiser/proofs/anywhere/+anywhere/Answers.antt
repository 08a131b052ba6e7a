use Rattle.std.proofs.Common.{sym, ◌∙◌, ap, ◌+◌, ◌≤◌, true, arith, length, drop, map}
use Rattle.std.proofs.Math.ListN.{drop_of_length-le}
use Rattle.apply_ast.specs.Trees.{pipe}
use Rattle.apply_ast.specs.Views.{key_of, keys_from, pipe_of, pipes_from, step_of}
use Rattle.apply_ast.proofs.ViewEquations.{keys_of-is, pipes_of-is}
use Rattle.rewrite_forms.proofs.CutLists.{dropped-next}
use Rattle.walk_laws.specs.FiltersOut as spec
use Rattle.optimiser.proofs.AnywhereLemmas.{anywhere-next, branch-next, key-next}
use Rattle.optimiser.proofs.anywhere.+anywhere.Goals as goal

pub gives_anywhere-loop-step-init : goal.gives_anywhere-loop-step-init
gives_anywhere-loop-step-init t c = ap spec.gives_anywhere c.steps-step-items.ensures.tree

pub gives_anywhere-loop-step-preserved : goal.gives_anywhere-loop-step-preserved
gives_anywhere-loop-step-preserved t c =
    let xs = c.steps-step-items.result.now in
    let i = c.loop-step.step-index in
    c.loop-step.invariant ∙ ap (λ l. spec.gives_anywhere (pipe l)) (dropped-next step_of xs i c.step-item.result c.loop-step-test.true c.step-item.is)
    ∙ anywhere-next (step_of c.step-item.result) c.may_stand.ensures (pipe (map step_of (drop (i + 1) xs))) c.if-not-may_stand.false

pub gives_anywhere-returns-then-not-may_stand : goal.gives_anywhere-returns-then-not-may_stand
gives_anywhere-returns-then-not-may_stand t c =
    let xs = c.steps-step-items.result.now in
    let i = c.loop-step.step-index in
    record {
      value = sym (c.loop-step.invariant ∙ ap (λ l. spec.gives_anywhere (pipe l)) (dropped-next step_of xs i c.step-item.result c.loop-step-test.true c.step-item.is)
          ∙ anywhere-next (step_of c.step-item.result) c.may_stand.ensures (pipe (map step_of (drop (i + 1) xs))) c.if-not-may_stand.true);
    }

pub gives_anywhere-returns : goal.gives_anywhere-returns
gives_anywhere-returns t c =
    let xs = c.steps-step-items.result.now in
    let end : length xs ≤ c.loop-step.step-index = omega (arith, c.loop-step-test.false) in
    record { value = sym (c.loop-step.invariant ∙ ap (λ l. spec.gives_anywhere (pipe (map step_of l))) (drop_of_length-le xs end)) }

pub all_give-loop-branch-init : goal.all_give-loop-branch-init
all_give-loop-branch-init t c = ap (spec.branches_give true) (pipes_of-is c.args.branches.now ∙ ap (λ l. pipes_from (map pipe_of l)) (sym c.as_slice-branch-items.ensures.value))

pub all_give-loop-branch-preserved : goal.all_give-loop-branch-preserved
all_give-loop-branch-preserved t c =
    let xs = c.as_slice-branch-items.result.now in
    let i = c.loop-branch.branch-index in
    c.loop-branch.invariant ∙ ap (λ l. spec.branches_give true (pipes_from l)) (dropped-next pipe_of xs i c.branch-item.result c.loop-branch-test.true c.branch-item.is)
    ∙ branch-next (pipe_of c.branch-item.result) c.gives_anywhere.ensures.value (pipes_from (map pipe_of (drop (i + 1) xs))) c.if-not-gives_anywhere.false

pub all_give-returns-then-not-gives_anywhere : goal.all_give-returns-then-not-gives_anywhere
all_give-returns-then-not-gives_anywhere t c =
    let xs = c.as_slice-branch-items.result.now in
    let i = c.loop-branch.branch-index in
    sym (c.loop-branch.invariant ∙ ap (λ l. spec.branches_give true (pipes_from l)) (dropped-next pipe_of xs i c.branch-item.result c.loop-branch-test.true c.branch-item.is)
    ∙ branch-next (pipe_of c.branch-item.result) c.gives_anywhere.ensures.value (pipes_from (map pipe_of (drop (i + 1) xs))) c.if-not-gives_anywhere.true)

pub all_give-returns : goal.all_give-returns
all_give-returns t c =
    let xs = c.as_slice-branch-items.result.now in
    let end : length xs ≤ c.loop-branch.branch-index = omega (arith, c.loop-branch-test.false) in
    sym (c.loop-branch.invariant ∙ ap (λ l. spec.branches_give true (pipes_from (map pipe_of l))) (drop_of_length-le xs end))

pub keys_give-loop-key-init : goal.keys_give-loop-key-init
keys_give-loop-key-init t c = ap spec.keys_give (keys_of-is c.args.keys.now ∙ ap (λ l. keys_from (map key_of l)) (sym c.as_slice-key-items.ensures.value))

pub keys_give-loop-key-preserved : goal.keys_give-loop-key-preserved
keys_give-loop-key-preserved t c =
    let xs = c.as_slice-key-items.result.now in
    let i = c.loop-key.key-index in
    c.loop-key.invariant ∙ ap (λ l. spec.keys_give (keys_from l)) (dropped-next key_of xs i c.key-item.result c.loop-key-test.true c.key-item.is)
    ∙ key-next (key_of c.key-item.result) c.key_gives.ensures (keys_from (map key_of (drop (i + 1) xs))) c.if-not-key_gives.false

pub keys_give-returns-then-not-key_gives : goal.keys_give-returns-then-not-key_gives
keys_give-returns-then-not-key_gives t c =
    let xs = c.as_slice-key-items.result.now in
    let i = c.loop-key.key-index in
    sym (c.loop-key.invariant ∙ ap (λ l. spec.keys_give (keys_from l)) (dropped-next key_of xs i c.key-item.result c.loop-key-test.true c.key-item.is)
    ∙ key-next (key_of c.key-item.result) c.key_gives.ensures (keys_from (map key_of (drop (i + 1) xs))) c.if-not-key_gives.true)

pub keys_give-returns : goal.keys_give-returns
keys_give-returns t c =
    let xs = c.as_slice-key-items.result.now in
    let end : length xs ≤ c.loop-key.key-index = omega (arith, c.loop-key-test.false) in
    sym (c.loop-key.invariant ∙ ap (λ l. spec.keys_give (keys_from (map key_of l))) (drop_of_length-le xs end))
