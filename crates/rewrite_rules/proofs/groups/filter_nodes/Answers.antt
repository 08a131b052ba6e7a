use Rattle.std.proofs.Common.{◌≡◌, sym, ◌∙◌, ap, subst, List, Option, map}
use Rattle.std.specs.Prelude.{IfOk, option_map}
use Rattle.apply_ast.specs.Trees.{Step}
use Rattle.apply_ast.specs.Views.{hier_of, inner_of, key_of, keys_from, pipe_of, step_of}
use Rattle.context_typing.specs.Readings.{readings}
use Rattle.rewrite_forms.specs.StepShapes.{shape_behind}
use Rattle.rewrite_rules.proofs.GroupForms.{groups-typed}
use Rattle.rewrite_rules.proofs.NodeForms.{nodes-given, nodes-missing, nodes-other, nodes-typed}
use Rattle.rewrite_rules.proofs.groups.filter_nodes.Goals as goal

pub grouping_quiet-requires-clause-typed : goal.grouping_quiet-requires-clause-typed
grouping_quiet-requires-clause-typed c =
    let m = c.args.m.now in
    let cs = readings c.args.c.now in
    groups-typed m cs (shape_behind m cs c.args.start.now (map step_of c.args.before.now)) pipe_of c.in-Some.inner.now c.in_ok-there-in-Some-recursive_key.there (step_of c.args.step.now) (keys_from (map key_of c.in-Some.keys.now)) c.in_ok-there-in-Some-recursive_key.ensures.value
    (sym c.grouped_by.ensures ∙ ap (option_map (λ x. (keys_from (map key_of x.0.now), inner_of (option_map pipe_of x.1.now)))) c.in-Some.is) c.requires.typed

pub chosen_nodes-requires-clause-typed : goal.chosen_nodes-requires-clause-typed
chosen_nodes-requires-clause-typed c =
    let m = c.args.m.now in
    let cs = readings c.args.c.now in
    nodes-typed m cs (shape_behind m cs c.args.start.now (map step_of c.args.before.now)) (step_of c.args.step.now) (map key_of c.in-Some.keys.now) (inner_of (option_map pipe_of c.in-Some.inner.now)) (hier_of c.in-Some-recursive_key.hier.now) c.in-Some-recursive_key.path.now (inner_of (option_map pipe_of c.in-Some-recursive_key.chosen.now))
    (sym c.grouped_by.ensures ∙ ap (option_map (λ x. (keys_from (map key_of x.0.now), inner_of (option_map pipe_of x.1.now)))) c.in-Some.is) (sym c.recursive_key.ensures.value ∙ ap (option_map (λ x. (hier_of x.0.now, (x.1.now, inner_of (option_map pipe_of x.2.now))))) c.in-Some-recursive_key.is) c.requires.typed

pub returns-in-Some-2-clause-value : goal.returns-in-Some-2-clause-value
returns-in-Some-2-clause-value c =
    let m = c.args.m.now in
    let cs = readings c.args.c.now in λ b.
    subst (λ (R : Option (List Step)). IfOk c.into_nodes.result (λ o. option_map (λ v. map step_of v.items) o ≡ R))
    (nodes-given m cs (shape_behind m cs c.args.start.now (map step_of c.args.before.now)) b (step_of c.args.step.now) (map step_of c.args.rest.now) (map key_of c.in-Some.keys.now) (inner_of (option_map pipe_of c.in-Some.inner.now)) (sym c.grouped_by.ensures ∙ ap (option_map (λ x. (keys_from (map key_of x.0.now), inner_of (option_map pipe_of x.1.now)))) c.in-Some.is)
    (hier_of c.in-Some-recursive_key.hier.now) c.in-Some-recursive_key.path.now (inner_of (option_map pipe_of c.in-Some-recursive_key.chosen.now)) (sym c.recursive_key.ensures.value ∙ ap (option_map (λ x. (hier_of x.0.now, (x.1.now, inner_of (option_map pipe_of x.2.now))))) c.in-Some-recursive_key.is) c.in_ok-there-in-Some-recursive_key.there c.in_ok-there-in-Some-recursive_key.ensures.value
    c.in_ok-shape-in-Some-recursive_key.shape c.in-Some-2.nodes c.in_ok-shape-in-Some-recursive_key.ensures.value (sym c.in-Some-2.is ∙ c.in_ok-nodes-in-Some-recursive_key.ensures.value)
    (sym c.in_ok-quiet-in-Some-recursive_key.ensures.value ∙ c.if-not-quiet.false))
    c.into_nodes.ensures.value

pub returns-in-Some-recursive_key-clause-value : goal.returns-in-Some-recursive_key-clause-value
returns-in-Some-recursive_key-clause-value c =
    let m = c.args.m.now in
    let cs = readings c.args.c.now in λ b.
    nodes-missing m cs (shape_behind m cs c.args.start.now (map step_of c.args.before.now)) b (step_of c.args.step.now) (map step_of c.args.rest.now) (map key_of c.in-Some.keys.now) (inner_of (option_map pipe_of c.in-Some.inner.now)) (sym c.grouped_by.ensures ∙ ap (option_map (λ x. (keys_from (map key_of x.0.now), inner_of (option_map pipe_of x.1.now)))) c.in-Some.is)
    (hier_of c.in-Some-recursive_key.hier.now) c.in-Some-recursive_key.path.now (inner_of (option_map pipe_of c.in-Some-recursive_key.chosen.now)) (sym c.recursive_key.ensures.value ∙ ap (option_map (λ x. (hier_of x.0.now, (x.1.now, inner_of (option_map pipe_of x.2.now))))) c.in-Some-recursive_key.is) c.in_ok-there-in-Some-recursive_key.there c.in_ok-there-in-Some-recursive_key.ensures.value (sym c.in-None-2.is ∙ c.in_ok-nodes-in-Some-recursive_key.ensures.value)

pub returns-in-Some-clause-value : goal.returns-in-Some-clause-value
returns-in-Some-clause-value c =
    let m = c.args.m.now in
    let cs = readings c.args.c.now in λ b.
    nodes-other m cs (shape_behind m cs c.args.start.now (map step_of c.args.before.now)) b (step_of c.args.step.now) (map step_of c.args.rest.now) (map key_of c.in-Some.keys.now) (inner_of (option_map pipe_of c.in-Some.inner.now)) (sym c.grouped_by.ensures ∙ ap (option_map (λ x. (keys_from (map key_of x.0.now), inner_of (option_map pipe_of x.1.now)))) c.in-Some.is)
    (sym c.recursive_key.ensures.value ∙ ap (option_map (λ x. (hier_of x.0.now, (x.1.now, inner_of (option_map pipe_of x.2.now))))) c.in-None-recursive_key.is)
