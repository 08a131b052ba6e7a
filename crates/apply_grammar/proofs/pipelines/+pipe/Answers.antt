use Rattle.std.proofs.Common.{◌∷◌, [], arith, ap, sym, ◌∙◌, Some}
use Rattle.std.proofs.lemmas.Result.{err_from_is_err_and}
use Rattle.std.proofs.lemmas.List.{length-append, map_push}
use Rattle.apply_ast.specs.Views.{step_of, pipe_of, key_of}
use Rattle.apply_ast.specs.Counts.{step_count, key_count}
use Rattle.apply_grammar.specs.Limits.{served}
use Rattle.apply_grammar.specs.PipeReading.{call_at, below, pipe_at, key_at}
use Rattle.apply_grammar.proofs.Failing.{fails_on}
use Rattle.apply_grammar.proofs.Nested.{Text, key_text}
use Rattle.apply_grammar.proofs.StepViews.{climb_is_made}
use Rattle.apply_grammar.proofs.PipeFound.{pipes_found}
use Rattle.apply_grammar.proofs.PipeSteps.{body_none, body_no_word, body_closed, body_some, key_call_none, key_call_rollup, key_call_recursive, key_call_other, keys_none, keys_closed, keys_some, keys_found, climb_reads, pipe_start, pipe_starts_not, pipe_turn, pipe_fails, pipe_done, parts_start, parts_start_not, parts_shorter, parts_turn, parts_fail, parts_stop}
use Rattle.apply_grammar.proofs.pipelines.+pipe.Goals as goal

pub read_body-returns-then-depth-eq0-clause-exact : goal.read_body-returns-then-depth-eq0-clause-exact
read_body-returns-then-depth-eq0-clause-exact t c = body_none served c.args.depth c.args.word.now c.args.n c.args.text.now c.if-depth-eq0.true

pub read_body-returns-in-None-clause-exact : goal.read_body-returns-in-None-clause-exact
read_body-returns-in-None-clause-exact t c = body_no_word served c.args.depth c.args.word.now c.args.n c.args.text.now (omega arith) c.in-None.ensures

pub read_body-returns-in-None-open_at-clause-exact : goal.read_body-returns-in-None-open_at-clause-exact
read_body-returns-in-None-open_at-clause-exact t c = body_closed served c.args.depth c.args.word.now c.args.n c.args.text.now c.in-Some.form (omega arith) c.in-Some.ensures c.in-None-open_at.ensures

pub read_body-returns-in-Some-open_at-clause-exact : goal.read_body-returns-in-Some-open_at-clause-exact
read_body-returns-in-Some-open_at-clause-exact t c = rw (body_some served c.args.depth c.args.word.now c.args.n c.args.text.now c.in-Some.form c.in-Some-open_at.behind.now (omega arith) c.in-Some.ensures c.in-Some-open_at.ensures) c.read_call.ensures.exact

pub read_call-returns-in-Concat-clause-exact : goal.read_call-returns-in-Concat-clause-exact
unfolding call_at below
read_call-returns-in-Concat-clause-exact t c = rw c.in-Concat.is c.read_concat.ensures.exact

pub read_climb-returns-in-Some-climb_end_at-clause-exact : goal.read_climb-returns-in-Some-climb_end_at-clause-exact
read_climb-returns-in-Some-climb_end_at-clause-exact t c =
    climb_reads (pipe_at served c.args.depth) c.args.up c.args.n c.args.text.now _ _ _ _ _ _ _ _ _ _ c.in_ok-hier.ensures c.in-Some.ensures c.in_ok-inner-in-Some.ensures.exact c.in-Some-climb_end_at.ensures
    ∙ ap (λ s. Some (s, c.in_ok-inner-in-Some.n, c.in-Some-climb_end_at.rest.now)) (sym (climb_is_made _ _ _ _ _ _))

pub read_key_call-returns-then-depth-eq0-clause-exact : goal.read_key_call-returns-then-depth-eq0-clause-exact
read_key_call-returns-then-depth-eq0-clause-exact t c = key_call_none served c.args.depth c.args.word.now c.args.n c.args.text.now c.if-depth-eq0.true

pub read_key_call-returns-then-same-clause-exact : goal.read_key_call-returns-then-same-clause-exact
read_key_call-returns-then-same-clause-exact t c = rw (key_call_rollup served c.args.depth c.args.word.now c.args.n c.args.text.now (omega arith) c.if-same.ensures) c.read_closed_rollup.ensures.exact

pub read_key_call-returns-then-same-2-clause-exact : goal.read_key_call-returns-then-same-2-clause-exact
read_key_call-returns-then-same-2-clause-exact t c = rw (key_call_recursive served c.args.depth c.args.word.now c.args.n c.args.text.now (omega arith) c.if-same.ensures c.if-same-2.ensures) c.read_closed_recursive.ensures.exact

pub read_key_call-returns-else-same-2-clause-exact : goal.read_key_call-returns-else-same-2-clause-exact
read_key_call-returns-else-same-2-clause-exact t c = key_call_other served c.args.depth c.args.word.now c.args.n c.args.text.now (omega arith) c.if-same.ensures c.if-same-2.ensures

pub read_keys-returns-then-depth-eq0-clause-exact : goal.read_keys-returns-then-depth-eq0-clause-exact
read_keys-returns-then-depth-eq0-clause-exact t c = keys_none served c.args.depth c.args.n c.args.text.now c.if-depth-eq0.true

pub read_keys-returns-in-None-clause-exact : goal.read_keys-returns-in-None-clause-exact
read_keys-returns-in-None-clause-exact t c = keys_closed served c.args.depth c.args.n c.args.text.now (omega arith) c.in-None.ensures

pub read_keys-returns-in-Some-clause-exact : goal.read_keys-returns-in-Some-clause-exact
read_keys-returns-in-Some-clause-exact t c = rw (keys_some served c.args.depth c.args.n c.args.text.now c.in-Some.behind.now (omega arith) c.in-Some.ensures) c.read_closed_keys.ensures.exact

pub read_pipe-returns-in_err-first-clause-exact : goal.read_pipe-returns-in_err-first-clause-exact
read_pipe-returns-in_err-first-clause-exact t c =
    let p = err_from_is_err_and c.from_residual.result c.from_residual.ensures.1 in
    rw (p.1, p.2) (fails_on c.in_err-first.field-0.0 c.in_err-first.ensures.exact (pipe_starts_not served c.args.depth c.args.n c.args.text.now))

pub read_pipe-loop-behind-init : goal.read_pipe-loop-behind-init
read_pipe-loop-behind-init t c =
    rw c.in_ok-push.ensures.items (rw c.new-steps.ensures.items (pipe_start served c.args.depth c.args.n c.args.text.now (step_of c.in_ok-first.first) c.in_ok-first.n c.in_ok-first.rest.now c.in_ok-first.ensures.exact, omega arith, omega (arith, c.in_ok-first.ensures.less)))

pub read_pipe-returns-in_err-step-clause-exact : goal.read_pipe-returns-in_err-step-clause-exact
read_pipe-returns-in_err-step-clause-exact t c =
    let p = err_from_is_err_and c.from_residual-in_err-step.result c.from_residual-in_err-step.ensures.1 in
    rw (p.1, p.2) (fails_on c.in_err-step.field-0.0 c.in_err-step.ensures.exact (λ h. pipe_fails served c.args.depth _ _ _ _ _ c.in-Some.ensures h c.loop-behind.invariant.0))

pub read_pipe-loop-behind-preserved : goal.read_pipe-loop-behind-preserved
read_pipe-loop-behind-preserved t c =
    rw (c.in_ok-push-2.ensures.items, map_push step_of c.loop-behind.steps.items c.in_ok-step.step)
    (pipe_turn served c.args.depth _ _ _ _ _ _ _ _ c.in-Some.ensures c.in_ok-step.ensures.exact c.loop-behind.invariant.0, omega (arith, length-append c.loop-behind.steps.items (c.in_ok-step.step ∷ [])), omega (arith, c.in_ok-step.ensures.less))

pub read_pipe-returns-clause-exact : goal.read_pipe-returns-clause-exact
read_pipe-returns-clause-exact t c = rw c.new.ensures.tree (pipe_done served c.args.depth _ _ _ _ c.in_default.ensures c.loop-behind.invariant.0)

pub read_pipe_list-returns-in_err-first-clause-exact : goal.read_pipe_list-returns-in_err-first-clause-exact
read_pipe_list-returns-in_err-first-clause-exact t c =
    let p = err_from_is_err_and c.from_residual.result c.from_residual.ensures.1 in
    rw (p.1, p.2) (fails_on c.in_err-first.field-0.0 c.in_err-first.ensures.exact (parts_start_not (pipe_at served c.args.depth) c.args.n c.args.text.now))

pub read_pipe_list-loop-behind-init : goal.read_pipe_list-loop-behind-init
read_pipe_list-loop-behind-init t c =
    rw c.in_ok-push.ensures.items (rw c.new-branches.ensures.items (parts_start (pipe_at served c.args.depth) c.args.n c.args.text.now (pipe_of c.in_ok-first.first) c.in_ok-first.n c.in_ok-first.rest.now c.in_ok-first.ensures.exact, omega (arith, c.in_ok-first.ensures.less)))

pub read_pipe_list-returns-in_err-branch-clause-exact : goal.read_pipe_list-returns-in_err-branch-clause-exact
read_pipe_list-returns-in_err-branch-clause-exact t c =
    let p = err_from_is_err_and c.from_residual-in_err-branch.result c.from_residual-in_err-branch.ensures.1 in
    rw (p.1, p.2) (fails_on c.in_err-branch.field-0.0 c.in_err-branch.ensures.exact (λ h. parts_fail (λ p. Text served p c.args.depth) step_count (pipe_at served c.args.depth) (pipes_found served c.args.depth) _ _ _ _ _ c.in-Some.ensures h c.loop-behind.invariant.0))

pub read_pipe_list-loop-behind-smaller : goal.read_pipe_list-loop-behind-smaller
read_pipe_list-loop-behind-smaller t c = parts_shorter (λ p. Text served p c.args.depth) step_count (pipe_at served c.args.depth) (pipes_found served c.args.depth) _ _ _ _ _ _ c.in-Some.ensures c.in_ok-branch.ensures.exact

pub read_pipe_list-loop-behind-preserved : goal.read_pipe_list-loop-behind-preserved
read_pipe_list-loop-behind-preserved t c =
    rw (c.in_ok-push-2.ensures.items, map_push pipe_of c.loop-behind.branches.items c.in_ok-branch.branch)
    (parts_turn (λ p. Text served p c.args.depth) step_count (pipe_at served c.args.depth) (pipes_found served c.args.depth) _ _ _ _ _ _ _ _ c.in-Some.ensures c.in_ok-branch.ensures.exact c.loop-behind.invariant.0, omega (arith, c.in_ok-branch.ensures.less))

pub read_pipe_list-returns-clause-exact : goal.read_pipe_list-returns-clause-exact
read_pipe_list-returns-clause-exact t c = parts_stop (pipe_at served c.args.depth) _ _ _ _ c.in_default.ensures c.loop-behind.invariant.0

pub read_key_list-returns-in_err-first-clause-exact : goal.read_key_list-returns-in_err-first-clause-exact
read_key_list-returns-in_err-first-clause-exact t c =
    let p = err_from_is_err_and c.from_residual.result c.from_residual.ensures.1 in
    rw (p.1, p.2) (fails_on c.in_err-first.field-0.0 c.in_err-first.ensures.exact (parts_start_not (key_at (below served c.args.depth 0) c.args.depth) c.args.n c.args.text.now))

pub read_key_list-loop-behind-init : goal.read_key_list-loop-behind-init
read_key_list-loop-behind-init t c =
    rw c.in_ok-push.ensures.items (rw c.new-keys.ensures.items (parts_start (key_at (below served c.args.depth 0) c.args.depth) c.args.n c.args.text.now (key_of c.in_ok-first.first) c.in_ok-first.n c.in_ok-first.rest.now c.in_ok-first.ensures.exact, omega (arith, c.in_ok-first.ensures.less)))

pub read_key_list-returns-in_err-key-clause-exact : goal.read_key_list-returns-in_err-key-clause-exact
read_key_list-returns-in_err-key-clause-exact t c =
    let p = err_from_is_err_and c.from_residual-in_err-key.result c.from_residual-in_err-key.ensures.1 in
    rw (p.1, p.2) (fails_on c.in_err-key.field-0.0 c.in_err-key.ensures.exact (λ h. parts_fail (λ k. key_text served k c.args.depth) key_count (key_at (below served c.args.depth 0) c.args.depth) (keys_found served c.args.depth) _ _ _ _ _ c.in-Some.ensures h c.loop-behind.invariant.0))

pub read_key_list-loop-behind-smaller : goal.read_key_list-loop-behind-smaller
read_key_list-loop-behind-smaller t c = parts_shorter (λ k. key_text served k c.args.depth) key_count (key_at (below served c.args.depth 0) c.args.depth) (keys_found served c.args.depth) _ _ _ _ _ _ c.in-Some.ensures c.in_ok-key.ensures.exact

pub read_key_list-loop-behind-preserved : goal.read_key_list-loop-behind-preserved
read_key_list-loop-behind-preserved t c =
    rw (c.in_ok-push-2.ensures.items, map_push key_of c.loop-behind.keys.items c.in_ok-key.key)
    (parts_turn (λ k. key_text served k c.args.depth) key_count (key_at (below served c.args.depth 0) c.args.depth) (keys_found served c.args.depth) _ _ _ _ _ _ _ _ c.in-Some.ensures c.in_ok-key.ensures.exact c.loop-behind.invariant.0, omega (arith, c.in_ok-key.ensures.less))

pub read_key_list-returns-clause-exact : goal.read_key_list-returns-clause-exact
read_key_list-returns-clause-exact t c = parts_stop (key_at (below served c.args.depth 0) c.args.depth) _ _ _ _ c.in_default.ensures c.loop-behind.invariant.0
