use Rattle.std.proofs.Common.{◌∙◌, ap, map}
use Rattle.apply_ast.specs.Trees.{Step}
use Rattle.apply_ast.specs.Views.{pipe_of, pipes_from}
use Rattle.apply_ast.proofs.ViewEquations.{step_of-Concat, step_of-Filter}
use Rattle.rewrite_laws.specs.Rewrites.{ended}
use Rattle.rewrite_rules.proofs.branches.ended_by.Goals as goal

pub returns : goal.returns
returns c =
    let filter = step_of-Filter c.in_ok-copy.field-0 ∙ ap Step.Filter c.in_ok-copy.ensures.value in
    step_of-Concat c.in_ok-ended_branches.field-0
    ∙ ap Step.Concat (c.in_ok-ended_branches.ensures ∙ (λ i. pipes_from (map (λ p. ended p (filter i)) (map pipe_of c.args.branches.now))))
