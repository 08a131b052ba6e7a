use Rattle.std.proofs.Common.{sym, ◌∙◌, subst, ◌<◌, map}
use Rattle.std.proofs.lemmas.List.{length-map}
use Rattle.apply_ast.specs.Views.{pipe_of, step_of}
use Rattle.optimiser.proofs.RestLemmas.{alone-more, alone-one, first-mapped, long-from}
use Rattle.optimiser.proofs.resting.is_alone.Goals as goal

pub returns-then-steps-ne1-clause-value : goal.returns-then-steps-ne1-clause-value
returns-then-steps-ne1-clause-value c =
    let xs = c.steps-steps.result.now in
    alone-more (pipe_of c.args.pipe.now) (map step_of xs) c.steps-steps.ensures.tree (λ h. c.if-steps-ne1.true (sym (length-map xs step_of) ∙ h))

pub returns-then-steps-ne1-clause-long : goal.returns-then-steps-ne1-clause-long
returns-then-steps-ne1-clause-long c =
    let xs = c.steps-steps.result.now in
    long-from (pipe_of c.args.pipe.now) (map step_of xs) c.steps-steps.ensures.tree (subst (λ n. 0 < n) (sym (length-map xs step_of)) c.steps-steps.ensures.some)

pub returns-clause-value : goal.returns-clause-value
returns-clause-value c =
    let xs = c.steps-steps.result.now in
    let x = c.index-steps-0.result in
    c.is_identity.ensures.value
    ∙ alone-one (pipe_of c.args.pipe.now) (map step_of xs) (step_of x) c.steps-steps.ensures.tree (length-map xs step_of ∙ c.if-steps-ne1.false) (first-mapped step_of xs x c.index-steps-0.is)

pub returns-clause-long : goal.returns-clause-long
returns-clause-long c =
    let xs = c.steps-steps.result.now in
    long-from (pipe_of c.args.pipe.now) (map step_of xs) c.steps-steps.ensures.tree (subst (λ n. 0 < n) (sym (length-map xs step_of)) c.steps-steps.ensures.some)
