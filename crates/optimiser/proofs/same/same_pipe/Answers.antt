use Rattle.std.proofs.Common.{sym, ◌∙◌, arith}
use Rattle.apply_ast.specs.Views.{pipe_of, step_of}
use Rattle.rewrite_laws.specs.TreeEquality.{step_same}
use Rattle.rewrite_forms.proofs.SameLists.{pipe-same, same-end, same-long, same-next, same-stop}
use Rattle.optimiser.proofs.same.same_pipe.Goals as goal

pub returns-then-steps-others : goal.returns-then-steps-others
returns-then-steps-others c =
    record {
      value = same-long (λ x y. step_same (step_of x) (step_of y)) c.steps-steps.result.now c.steps-others.result.now c.if-steps-others.true
          ∙ pipe-same step_of c.steps-steps.result.now c.steps-others.result.now (pipe_of c.args.a.now) (pipe_of c.args.b.now) c.steps-steps.ensures.tree c.steps-others.ensures.tree;
    }

pub loop-i-preserved : goal.loop-i-preserved
loop-i-preserved c = same-next (λ x y. step_same (step_of x) (step_of y)) c.steps-steps.result.now c.steps-others.result.now c.loop-i.i c.index-steps-i.result c.index-others-i.result (omega arith) c.index-steps-i.is (omega arith) c.index-others-i.is c.loop-i.invariant (sym c.same_step.ensures.value ∙ c.if-not-same_step.false)

pub returns-then-not-same_step : goal.returns-then-not-same_step
returns-then-not-same_step c =
    record {
      value = same-stop (λ x y. step_same (step_of x) (step_of y)) c.steps-steps.result.now c.steps-others.result.now c.loop-i.i c.index-steps-i.result c.index-others-i.result (omega arith) c.index-steps-i.is (omega arith) c.index-others-i.is c.loop-i.invariant (sym c.same_step.ensures.value ∙ c.if-not-same_step.true)
          ∙ pipe-same step_of c.steps-steps.result.now c.steps-others.result.now (pipe_of c.args.a.now) (pipe_of c.args.b.now) c.steps-steps.ensures.tree c.steps-others.ensures.tree;
    }

pub returns : goal.returns
returns c =
    record {
      value = same-end (λ x y. step_same (step_of x) (step_of y)) c.steps-steps.result.now c.steps-others.result.now c.loop-i.i (omega arith) (omega arith) c.loop-i.invariant
          ∙ pipe-same step_of c.steps-steps.result.now c.steps-others.result.now (pipe_of c.args.a.now) (pipe_of c.args.b.now) c.steps-steps.ensures.tree c.steps-others.ensures.tree;
    }
