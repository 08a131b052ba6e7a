use Rattle.std.proofs.Common.{◌≡◌, sym, ◌∙◌, ap, ◌+◌, ◌≤◌, ◌&&◌, Bool, arith, length, drop, map}
use Rattle.std.proofs.Math.ListN.{drop_of_length-le}
use Rattle.apply_ast.specs.Trees.{Key, Keys, Pipe, Pipes, Step, pipe}
use Rattle.apply_ast.specs.Views.{key_of, keys_from, pipe_of, pipes_from, step_of}
use Rattle.apply_ast.proofs.ViewEquations.{keys_of-is, pipes_of-is}
use Rattle.rewrite_forms.proofs.CutLists.{dropped-next}
use Rattle.walk_laws.specs.Apart as spec
use Rattle.optimiser.proofs.apart.+apart.Goals as goal

next-step : {b : Bool} (s : Step) → b ≡ spec.step_apart s → (p : Pipe) → {v : Bool} → b ≡ v → spec.stays_apart (Pipe.Then s p) ≡ (v && spec.stays_apart p)
next-step s e p h = λ i. (sym e ∙ h) i && spec.stays_apart p

next-key : {b : Bool} (k : Key) → b ≡ spec.key_apart k → (ks : Keys) → {v : Bool} → b ≡ v → spec.keys_apart (Keys.MoreKeys k ks) ≡ (v && spec.keys_apart ks)
next-key k e ks h = λ i. (sym e ∙ h) i && spec.keys_apart ks

next-branch : {b : Bool} (p : Pipe) → b ≡ spec.stays_apart p → (ps : Pipes) → {v : Bool} → b ≡ v → spec.branches_apart (Pipes.MorePipes p ps) ≡ (v && spec.branches_apart ps)
next-branch p e ps h = λ i. (sym e ∙ h) i && spec.branches_apart ps

pub stays_apart-loop-step-init : goal.stays_apart-loop-step-init
stays_apart-loop-step-init t c = ap spec.stays_apart c.steps-step-items.ensures.tree

pub stays_apart-loop-step-preserved : goal.stays_apart-loop-step-preserved
stays_apart-loop-step-preserved t c =
    let xs = c.steps-step-items.result.now in
    let i = c.loop-step.step-index in
    c.loop-step.invariant ∙ ap (λ l. spec.stays_apart (pipe l)) (dropped-next step_of xs i c.step-item.result c.loop-step-test.true c.step-item.is)
    ∙ next-step (step_of c.step-item.result) c.step_apart.ensures (pipe (map step_of (drop (i + 1) xs))) c.if-not-step_apart.false

pub stays_apart-returns-then-not-step_apart : goal.stays_apart-returns-then-not-step_apart
stays_apart-returns-then-not-step_apart t c =
    let xs = c.steps-step-items.result.now in
    let i = c.loop-step.step-index in
    record {
      value = sym (c.loop-step.invariant ∙ ap (λ l. spec.stays_apart (pipe l)) (dropped-next step_of xs i c.step-item.result c.loop-step-test.true c.step-item.is)
          ∙ next-step (step_of c.step-item.result) c.step_apart.ensures (pipe (map step_of (drop (i + 1) xs))) c.if-not-step_apart.true);
    }

pub stays_apart-returns : goal.stays_apart-returns
stays_apart-returns t c =
    let xs = c.steps-step-items.result.now in
    let end : length xs ≤ c.loop-step.step-index = omega (arith, c.loop-step-test.false) in
    record { value = sym (c.loop-step.invariant ∙ ap (λ l. spec.stays_apart (pipe (map step_of l))) (drop_of_length-le xs end)) }

pub keys_apart-loop-key-init : goal.keys_apart-loop-key-init
keys_apart-loop-key-init t c = ap spec.keys_apart (keys_of-is c.args.keys.now ∙ ap (λ l. keys_from (map key_of l)) (sym c.as_slice-key-items.ensures.value))

pub keys_apart-loop-key-preserved : goal.keys_apart-loop-key-preserved
keys_apart-loop-key-preserved t c =
    let xs = c.as_slice-key-items.result.now in
    let i = c.loop-key.key-index in
    c.loop-key.invariant ∙ ap (λ l. spec.keys_apart (keys_from l)) (dropped-next key_of xs i c.key-item.result c.loop-key-test.true c.key-item.is)
    ∙ next-key (key_of c.key-item.result) c.key_apart.ensures (keys_from (map key_of (drop (i + 1) xs))) c.if-not-key_apart.false

pub keys_apart-returns-then-not-key_apart : goal.keys_apart-returns-then-not-key_apart
keys_apart-returns-then-not-key_apart t c =
    let xs = c.as_slice-key-items.result.now in
    let i = c.loop-key.key-index in
    sym (c.loop-key.invariant ∙ ap (λ l. spec.keys_apart (keys_from l)) (dropped-next key_of xs i c.key-item.result c.loop-key-test.true c.key-item.is)
    ∙ next-key (key_of c.key-item.result) c.key_apart.ensures (keys_from (map key_of (drop (i + 1) xs))) c.if-not-key_apart.true)

pub keys_apart-returns : goal.keys_apart-returns
keys_apart-returns t c =
    let xs = c.as_slice-key-items.result.now in
    let end : length xs ≤ c.loop-key.key-index = omega (arith, c.loop-key-test.false) in
    sym (c.loop-key.invariant ∙ ap (λ l. spec.keys_apart (keys_from (map key_of l))) (drop_of_length-le xs end))

pub branches_apart-loop-branch-init : goal.branches_apart-loop-branch-init
branches_apart-loop-branch-init t c = ap spec.branches_apart (pipes_of-is c.args.branches.now ∙ ap (λ l. pipes_from (map pipe_of l)) (sym c.as_slice-branch-items.ensures.value))

pub branches_apart-loop-branch-preserved : goal.branches_apart-loop-branch-preserved
branches_apart-loop-branch-preserved t c =
    let xs = c.as_slice-branch-items.result.now in
    let i = c.loop-branch.branch-index in
    c.loop-branch.invariant ∙ ap (λ l. spec.branches_apart (pipes_from l)) (dropped-next pipe_of xs i c.branch-item.result c.loop-branch-test.true c.branch-item.is)
    ∙ next-branch (pipe_of c.branch-item.result) c.stays_apart.ensures.value (pipes_from (map pipe_of (drop (i + 1) xs))) c.if-not-stays_apart.false

pub branches_apart-returns-then-not-stays_apart : goal.branches_apart-returns-then-not-stays_apart
branches_apart-returns-then-not-stays_apart t c =
    let xs = c.as_slice-branch-items.result.now in
    let i = c.loop-branch.branch-index in
    sym (c.loop-branch.invariant ∙ ap (λ l. spec.branches_apart (pipes_from l)) (dropped-next pipe_of xs i c.branch-item.result c.loop-branch-test.true c.branch-item.is)
    ∙ next-branch (pipe_of c.branch-item.result) c.stays_apart.ensures.value (pipes_from (map pipe_of (drop (i + 1) xs))) c.if-not-stays_apart.true)

pub branches_apart-returns : goal.branches_apart-returns
branches_apart-returns t c =
    let xs = c.as_slice-branch-items.result.now in
    let end : length xs ≤ c.loop-branch.branch-index = omega (arith, c.loop-branch-test.false) in
    sym (c.loop-branch.invariant ∙ ap (λ l. spec.branches_apart (pipes_from (map pipe_of l))) (drop_of_length-le xs end))
