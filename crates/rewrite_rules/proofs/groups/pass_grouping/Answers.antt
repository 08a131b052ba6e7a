use Rattle.std.proofs.Common.{◌≡◌, sym, ◌∙◌, ap, subst, List, Option, map}
use Rattle.std.specs.Prelude.{IfOk, option_map}
use Rattle.apply_ast.specs.Trees.{Step}
use Rattle.apply_ast.specs.Views.{inner_of, key_of, keys_from, pipe_of, step_of}
use Rattle.context_typing.specs.Readings.{readings}
use Rattle.rewrite_rules.specs.GroupForms.{is_of}
use Rattle.rewrite_forms.specs.StepShapes.{shape_behind}
use Rattle.rewrite_rules.proofs.GroupForms.{grouping-given, groups-typed}
use Rattle.rewrite_rules.proofs.groups.pass_grouping.Goals as goal

pub grouping_quiet-requires-clause-typed : goal.grouping_quiet-requires-clause-typed
grouping_quiet-requires-clause-typed c =
    let m = c.args.m.now in
    let cs = readings c.args.c.now in
    groups-typed m cs (shape_behind m cs c.args.start.now (map step_of c.args.before.now)) pipe_of c.in-Some.inner.now c.in_ok-there-in-Some.there (step_of c.args.step.now) (keys_from (map key_of c.in-Some.keys.now))
    c.in_ok-there-in-Some.ensures.value
    (sym c.grouped_by.ensures ∙ ap (option_map (λ x. (keys_from (map key_of x.0.now), inner_of (option_map pipe_of x.1.now)))) c.in-Some.is)
    c.requires.typed

pub returns-in_ok-over-in-Some-clause-value : goal.returns-in_ok-over-in-Some-clause-value
returns-in_ok-over-in-Some-clause-value c =
    let m = c.args.m.now in
    let cs = readings c.args.c.now in λ b.
    subst (λ (R : Option (List Step)). IfOk c.passed_by.result (λ o. option_map (λ v. map step_of v.items) o ≡ R))
    (grouping-given m cs (shape_behind m cs c.args.start.now (map step_of c.args.before.now)) b (is_of c.args.kind) (step_of c.args.step.now) (map step_of c.args.rest.now) (keys_from (map key_of c.in-Some.keys.now)) (inner_of (option_map pipe_of c.in-Some.inner.now))
    (sym c.grouped_by.ensures ∙ ap (option_map (λ x. (keys_from (map key_of x.0.now), inner_of (option_map pipe_of x.1.now)))) c.in-Some.is)
    c.in_ok-there-in-Some.there c.in_ok-shape-in-Some.shape c.deref.result.now
    c.in_ok-there-in-Some.ensures.value c.in_ok-shape-in-Some.ensures.value (c.deref.ensures.value ∙ c.in_ok-over-in-Some.ensures.value)
    (sym c.has_part.ensures ∙ c.if-not-has_part.false) (sym c.in_ok-quiet-in-Some.ensures.value ∙ c.if-not-quiet.false))
    c.passed_by.ensures.value
