use Rattle.std.proofs.Common.{sym, ◌∙◌, ap, arith, map}
use Rattle.apply_ast.specs.Views.{key_of, keys_from, keys_of, pipe_of, pipes_from, pipes_of, step_of}
use Rattle.apply_ast.proofs.ViewEquations.{keys_of-is, pipes_of-is}
use Rattle.rewrite_laws.specs.TreeEquality.{key_same, pipe_same, step_same}
use Rattle.rewrite_forms.proofs.SameLists.{branches-same, keys-same, pipe-same, same-end, same-long, same-next, same-stop}
use Rattle.rewrite_forms.proofs.same_steps.+same.Goals as goal

pub same_pipe-returns-then-steps-others : goal.same_pipe-returns-then-steps-others
same_pipe-returns-then-steps-others t c =
    same-long (λ x y. step_same (step_of x) (step_of y)) c.steps-steps.result.now c.steps-others.result.now c.if-steps-others.true
    ∙ pipe-same step_of c.steps-steps.result.now c.steps-others.result.now (pipe_of c.args.a.now) (pipe_of c.args.b.now) c.steps-steps.ensures.tree c.steps-others.ensures.tree

pub same_pipe-loop-i-preserved : goal.same_pipe-loop-i-preserved
same_pipe-loop-i-preserved t c = same-next (λ x y. step_same (step_of x) (step_of y)) c.steps-steps.result.now c.steps-others.result.now c.loop-i.i c.index-steps-i.result c.index-others-i.result (omega arith) c.index-steps-i.is (omega arith) c.index-others-i.is c.loop-i.invariant (sym c.same_step.ensures.value ∙ c.if-not-same_step.false)

pub same_pipe-returns-then-not-same_step : goal.same_pipe-returns-then-not-same_step
same_pipe-returns-then-not-same_step t c =
    same-stop (λ x y. step_same (step_of x) (step_of y)) c.steps-steps.result.now c.steps-others.result.now c.loop-i.i c.index-steps-i.result c.index-others-i.result (omega arith) c.index-steps-i.is (omega arith) c.index-others-i.is c.loop-i.invariant (sym c.same_step.ensures.value ∙ c.if-not-same_step.true)
    ∙ pipe-same step_of c.steps-steps.result.now c.steps-others.result.now (pipe_of c.args.a.now) (pipe_of c.args.b.now) c.steps-steps.ensures.tree c.steps-others.ensures.tree

pub same_pipe-returns : goal.same_pipe-returns
same_pipe-returns t c =
    same-end (λ x y. step_same (step_of x) (step_of y)) c.steps-steps.result.now c.steps-others.result.now c.loop-i.i (omega arith) (omega arith) c.loop-i.invariant
    ∙ pipe-same step_of c.steps-steps.result.now c.steps-others.result.now (pipe_of c.args.a.now) (pipe_of c.args.b.now) c.steps-steps.ensures.tree c.steps-others.ensures.tree

pub same_branches-returns-then-branches-others : goal.same_branches-returns-then-branches-others
same_branches-returns-then-branches-others t c =
    same-long (λ x y. pipe_same (pipe_of x) (pipe_of y)) c.as_slice-branches.result.now c.as_slice-others.result.now c.if-branches-others.true
    ∙ branches-same pipe_of c.as_slice-branches.result.now c.as_slice-others.result.now (pipes_of c.args.a.now) (pipes_of c.args.b.now) (pipes_of-is c.args.a.now ∙ ap (λ l. pipes_from (map pipe_of l)) (sym c.as_slice-branches.ensures.value)) (pipes_of-is c.args.b.now ∙ ap (λ l. pipes_from (map pipe_of l)) (sym c.as_slice-others.ensures.value))

pub same_branches-loop-i-preserved : goal.same_branches-loop-i-preserved
same_branches-loop-i-preserved t c = same-next (λ x y. pipe_same (pipe_of x) (pipe_of y)) c.as_slice-branches.result.now c.as_slice-others.result.now c.loop-i.i c.index-branches-i.result c.index-others-i.result (omega arith) c.index-branches-i.is (omega arith) c.index-others-i.is c.loop-i.invariant (sym c.same_pipe.ensures ∙ c.if-not-same_pipe.false)

pub same_branches-returns-then-not-same_pipe : goal.same_branches-returns-then-not-same_pipe
same_branches-returns-then-not-same_pipe t c =
    same-stop (λ x y. pipe_same (pipe_of x) (pipe_of y)) c.as_slice-branches.result.now c.as_slice-others.result.now c.loop-i.i c.index-branches-i.result c.index-others-i.result (omega arith) c.index-branches-i.is (omega arith) c.index-others-i.is c.loop-i.invariant (sym c.same_pipe.ensures ∙ c.if-not-same_pipe.true)
    ∙ branches-same pipe_of c.as_slice-branches.result.now c.as_slice-others.result.now (pipes_of c.args.a.now) (pipes_of c.args.b.now) (pipes_of-is c.args.a.now ∙ ap (λ l. pipes_from (map pipe_of l)) (sym c.as_slice-branches.ensures.value)) (pipes_of-is c.args.b.now ∙ ap (λ l. pipes_from (map pipe_of l)) (sym c.as_slice-others.ensures.value))

pub same_branches-returns : goal.same_branches-returns
same_branches-returns t c =
    same-end (λ x y. pipe_same (pipe_of x) (pipe_of y)) c.as_slice-branches.result.now c.as_slice-others.result.now c.loop-i.i (omega arith) (omega arith) c.loop-i.invariant
    ∙ branches-same pipe_of c.as_slice-branches.result.now c.as_slice-others.result.now (pipes_of c.args.a.now) (pipes_of c.args.b.now) (pipes_of-is c.args.a.now ∙ ap (λ l. pipes_from (map pipe_of l)) (sym c.as_slice-branches.ensures.value)) (pipes_of-is c.args.b.now ∙ ap (λ l. pipes_from (map pipe_of l)) (sym c.as_slice-others.ensures.value))

pub same_keys-returns-then-keys-others : goal.same_keys-returns-then-keys-others
same_keys-returns-then-keys-others t c =
    same-long (λ x y. key_same (key_of x) (key_of y)) c.as_slice-keys.result.now c.as_slice-others.result.now c.if-keys-others.true
    ∙ keys-same key_of c.as_slice-keys.result.now c.as_slice-others.result.now (keys_of c.args.a.now) (keys_of c.args.b.now) (keys_of-is c.args.a.now ∙ ap (λ l. keys_from (map key_of l)) (sym c.as_slice-keys.ensures.value)) (keys_of-is c.args.b.now ∙ ap (λ l. keys_from (map key_of l)) (sym c.as_slice-others.ensures.value))

pub same_keys-loop-i-preserved : goal.same_keys-loop-i-preserved
same_keys-loop-i-preserved t c = same-next (λ x y. key_same (key_of x) (key_of y)) c.as_slice-keys.result.now c.as_slice-others.result.now c.loop-i.i c.index-keys-i.result c.index-others-i.result (omega arith) c.index-keys-i.is (omega arith) c.index-others-i.is c.loop-i.invariant (sym c.same_key.ensures ∙ c.if-not-same_key.false)

pub same_keys-returns-then-not-same_key : goal.same_keys-returns-then-not-same_key
same_keys-returns-then-not-same_key t c =
    same-stop (λ x y. key_same (key_of x) (key_of y)) c.as_slice-keys.result.now c.as_slice-others.result.now c.loop-i.i c.index-keys-i.result c.index-others-i.result (omega arith) c.index-keys-i.is (omega arith) c.index-others-i.is c.loop-i.invariant (sym c.same_key.ensures ∙ c.if-not-same_key.true)
    ∙ keys-same key_of c.as_slice-keys.result.now c.as_slice-others.result.now (keys_of c.args.a.now) (keys_of c.args.b.now) (keys_of-is c.args.a.now ∙ ap (λ l. keys_from (map key_of l)) (sym c.as_slice-keys.ensures.value)) (keys_of-is c.args.b.now ∙ ap (λ l. keys_from (map key_of l)) (sym c.as_slice-others.ensures.value))

pub same_keys-returns : goal.same_keys-returns
same_keys-returns t c =
    same-end (λ x y. key_same (key_of x) (key_of y)) c.as_slice-keys.result.now c.as_slice-others.result.now c.loop-i.i (omega arith) (omega arith) c.loop-i.invariant
    ∙ keys-same key_of c.as_slice-keys.result.now c.as_slice-others.result.now (keys_of c.args.a.now) (keys_of c.args.b.now) (keys_of-is c.args.a.now ∙ ap (λ l. keys_from (map key_of l)) (sym c.as_slice-keys.ensures.value)) (keys_of-is c.args.b.now ∙ ap (λ l. keys_from (map key_of l)) (sym c.as_slice-others.ensures.value))
