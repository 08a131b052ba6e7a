use Rattle.std.proofs.Common.{sym, ◌∙◌, ap, Some, map}
use Rattle.std.specs.Prelude.{option_map}
use Rattle.apply_ast.specs.Views.{pipe_of, pipes_from, pipes_of, step_of}
use Rattle.apply_ast.proofs.ViewEquations.{pipes_of-is}
use Rattle.rewrite_rules.proofs.BranchForms.{factor-apart, factor-given}
use Rattle.rewrite_rules.proofs.branches.factor_branches.Goals as goal

pub returns-in_ok-made-in-Some-common_first-clause-value : goal.returns-in_ok-made-in-Some-common_first-clause-value
returns-in_ok-made-in-Some-common_first-clause-value c = λ m cs S b.
    ap Some c.in_ok-made-in-Some-common_first.ensures.value
    ∙ factor-given m cs S b (step_of c.args.step.now) (map step_of c.args.rest.now) (pipes_of c.in-Some.branches.now) (sym c.branches_of.ensures.value ∙ ap (option_map (λ l. pipes_of l.now)) c.in-Some.is) (map pipe_of c.as_slice-branches.result.now) (pipes_of-is c.in-Some.branches.now ∙ ap (λ l. pipes_from (map pipe_of l)) (sym c.as_slice-branches.ensures.value))
    (step_of c.in-Some-common_first.first.now) (ap (option_map (λ s. step_of s.now)) (sym c.in-Some-common_first.is) ∙ c.common_first.ensures)

pub returns-in-None-common_first-clause-value : goal.returns-in-None-common_first-clause-value
returns-in-None-common_first-clause-value c = λ m cs S b.
    factor-apart m cs S b (step_of c.args.step.now) (map step_of c.args.rest.now) (pipes_of c.in-Some.branches.now) (sym c.branches_of.ensures.value ∙ ap (option_map (λ l. pipes_of l.now)) c.in-Some.is) (map pipe_of c.as_slice-branches.result.now) (pipes_of-is c.in-Some.branches.now ∙ ap (λ l. pipes_from (map pipe_of l)) (sym c.as_slice-branches.ensures.value))
    (ap (option_map (λ s. step_of s.now)) (sym c.in-None-common_first.is) ∙ c.common_first.ensures)
