use Rattle.std.proofs.Common.{◌≡◌, sym, ◌∙◌, ap, subst, List, Option, Some, map}
use Rattle.std.specs.Prelude.{IfOk, option_map}
use Rattle.apply_ast.specs.Trees.{Step}
use Rattle.apply_ast.specs.Views.{pipe_of, pipes_from, pipes_of, step_of}
use Rattle.apply_ast.proofs.ViewEquations.{pipes_of-is}
use Rattle.context_typing.specs.Readings.{readings}
use Rattle.rewrite_forms.specs.StepShapes.{shape_behind}
use Rattle.rewrite_rules.proofs.BranchForms.{filter-given, filter-untyped}
use Rattle.rewrite_rules.proofs.branches.filter_branches.Goals as goal

pub returns-in_ok-shape-in-Some-2-clause-value : goal.returns-in_ok-shape-in-Some-2-clause-value
returns-in_ok-shape-in-Some-2-clause-value c =
    let m = c.args.m.now in
    let cs = readings c.args.c.now in λ b.
    subst (λ (R : Option (List Step)). IfOk c.into_branches.result (λ o. option_map (λ v. map step_of v.items) o ≡ R))
    (filter-given m cs (shape_behind m cs c.args.start.now (map step_of c.args.before.now)) b (step_of c.args.step.now) (map step_of c.args.rest.now) (pipes_of c.in-Some.branches.now)
    (sym c.branches_of.ensures.value ∙ ap (option_map (λ l. pipes_of l.now)) c.in-Some.is) (map pipe_of c.as_slice-branches.result.now)
    (pipes_of-is c.in-Some.branches.now ∙ ap (λ l. pipes_from (map pipe_of l)) (sym c.as_slice-branches.ensures.value))
    c.in_ok-there-in-Some.there c.in_ok-there-in-Some.ensures.value c.in_ok-shape-in-Some-2.shape c.as_slice.result.now c.in_ok-shape-in-Some-2.ensures.value
    (ap Some c.as_slice.ensures.value ∙ ap (option_map (λ v. v.items)) (sym c.in-Some-2.is) ∙ c.in_ok-shapes-in-Some.ensures.value))
    c.into_branches.ensures.value

pub returns-in-None-2-clause-value : goal.returns-in-None-2-clause-value
returns-in-None-2-clause-value c =
    let m = c.args.m.now in
    let cs = readings c.args.c.now in λ b.
    filter-untyped m cs (shape_behind m cs c.args.start.now (map step_of c.args.before.now)) b (step_of c.args.step.now) (map step_of c.args.rest.now) (pipes_of c.in-Some.branches.now)
    (sym c.branches_of.ensures.value ∙ ap (option_map (λ l. pipes_of l.now)) c.in-Some.is) (map pipe_of c.as_slice-branches.result.now)
    (pipes_of-is c.in-Some.branches.now ∙ ap (λ l. pipes_from (map pipe_of l)) (sym c.as_slice-branches.ensures.value))
    c.in_ok-there-in-Some.there c.in_ok-there-in-Some.ensures.value (ap (option_map (λ v. v.items)) (sym c.in-None-2.is) ∙ c.in_ok-shapes-in-Some.ensures.value)
