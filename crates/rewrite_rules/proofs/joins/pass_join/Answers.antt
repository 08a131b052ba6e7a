use Rattle.std.proofs.Common.{◌≡◌, sym, ◌∙◌, ap, subst, List, Option, map}
use Rattle.std.specs.Prelude.{IfOk, option_map}
use Rattle.apply_ast.specs.Trees.{Step}
use Rattle.apply_ast.specs.Views.{step_of}
use Rattle.context_typing.specs.Readings.{readings}
use Rattle.rewrite_rules.specs.Joins.{join_parts}
use Rattle.rewrite_forms.specs.StepShapes.{shape_behind}
use Rattle.rewrite_rules.proofs.JoinForms.{join-given}
use Rattle.rewrite_rules.proofs.joins.pass_join.Goals as goal

pub returns-else-join-clause-value : goal.returns-else-join-clause-value
returns-else-join-clause-value c =
    let m = c.args.m.now in
    let cs = readings c.args.c.now in λ b.
    subst (λ (R : Option (List Step)). IfOk c.pass_quiet.result (λ o. option_map (λ v. map step_of v.items) o ≡ R))
    (join-given m cs (shape_behind m cs c.args.start.now (map step_of c.args.before.now)) b (step_of c.args.step.now) (map step_of c.args.rest.now) (join_parts c.in-Some.join.now)
    (sym c.joined_by.ensures ∙ ap (option_map (λ j. join_parts j.now)) c.in-Some.is) c.if-join.false)
    c.pass_quiet.ensures.value
