use Rattle.std.proofs.Common.{sym, ◌∙◌, ap, ◌≤◌, length, map, arith}
use Rattle.std.specs.Prelude.{option_map, slice_get}
use Rattle.apply_ast.specs.Trees.{Step, Key}
use Rattle.apply_ast.specs.declared.steps.JoinStep.{out-JoinStep}
use Rattle.apply_ast.specs.declared.steps.Step.TheVariants as step
use Rattle.apply_ast.specs.Views.{step_of, pipe_of, pipes_of, pipes_from, key_of, keys_of, keys_from, hier_of, inner_of, join_of, climb_of}
use Rattle.apply_ast.proofs.ViewEquations.{key_of-Plain, key_of-Rollup, step_of-Identity, step_of-Filter, step_of-Compute, step_of-OrderBy, step_of-Skip, step_of-Top, step_of-Aggregate, step_of-GroupBy, step_of-Concat, step_of-TopBy, step_of-Traverse, join_of-is, climb_of-is, keys_of-is, pipes_of-is}
use Rattle.context_typing.specs.Readings.{readings}
use Rattle.rewrite_places.specs.Places.{first_in_step}
use Rattle.rewrite_rules.specs.RuleNames.{rule_of}
use Rattle.rewrite_forms.specs.StepShapes.{shape_behind}
use Rattle.rewrite_places.proofs.ResultEquations.{key_results-Plain, key_results-Rollup, step_results-Identity, step_results-Filter, step_results-Compute, step_results-OrderBy, step_results-Skip, step_results-Top, step_results-Aggregate, step_results-TopBy, step_results-Traverse}
use Rattle.rewrite_places.proofs.FirstPlaces.{first-NoPipe, first-Recursive_alone, first-Join_alone, walked-start, here-answer, inside-answer, past-answer, nowhere-answer, keys-answer, keys-answer_none, branches-answer, branches-answer_none, groups-answer, group_keys-answer, group_inner-answer, concat-answer, concat-answer_none, join-answer, climb-answer, nodes-answer}
use Rattle.rewrite_places.proofs.places.+places.Goals as goal

pub in_step-returns-in-Identity : goal.in_step-returns-in-Identity
in_step-returns-in-Identity t c = rw (c.in-Identity.is, step_of-Identity) (sym (ap (λ l. slice_get l 0) (step_results-Identity (rule_of c.args.rule) c.args.m.now (readings c.args.c.now) (shape_behind c.args.m.now (readings c.args.c.now) c.args.start.now (map step_of c.args.before.now)))))

pub in_step-returns-in-Filter : goal.in_step-returns-in-Filter
in_step-returns-in-Filter t c = rw (c.in-Filter.is, step_of-Filter) (sym (ap (λ l. slice_get l 0) (step_results-Filter (rule_of c.args.rule) c.args.m.now (readings c.args.c.now) (shape_behind c.args.m.now (readings c.args.c.now) c.args.start.now (map step_of c.args.before.now)) _)))

pub in_step-returns-in-Compute : goal.in_step-returns-in-Compute
in_step-returns-in-Compute t c = rw (c.in-Compute.is, step_of-Compute) (sym (ap (λ l. slice_get l 0) (step_results-Compute (rule_of c.args.rule) c.args.m.now (readings c.args.c.now) (shape_behind c.args.m.now (readings c.args.c.now) c.args.start.now (map step_of c.args.before.now)) _)))

pub in_step-returns-in-OrderBy : goal.in_step-returns-in-OrderBy
in_step-returns-in-OrderBy t c = rw (c.in-OrderBy.is, step_of-OrderBy) (sym (ap (λ l. slice_get l 0) (step_results-OrderBy (rule_of c.args.rule) c.args.m.now (readings c.args.c.now) (shape_behind c.args.m.now (readings c.args.c.now) c.args.start.now (map step_of c.args.before.now)) _)))

pub in_step-returns-in-Skip : goal.in_step-returns-in-Skip
in_step-returns-in-Skip t c = rw (c.in-Skip.is, step_of-Skip) (sym (ap (λ l. slice_get l 0) (step_results-Skip (rule_of c.args.rule) c.args.m.now (readings c.args.c.now) (shape_behind c.args.m.now (readings c.args.c.now) c.args.start.now (map step_of c.args.before.now)) _)))

pub in_step-returns-in-Top : goal.in_step-returns-in-Top
in_step-returns-in-Top t c = rw (c.in-Top.is, step_of-Top) (sym (ap (λ l. slice_get l 0) (step_results-Top (rule_of c.args.rule) c.args.m.now (readings c.args.c.now) (shape_behind c.args.m.now (readings c.args.c.now) c.args.start.now (map step_of c.args.before.now)) _)))

pub in_step-returns-in-Aggregate : goal.in_step-returns-in-Aggregate
in_step-returns-in-Aggregate t c = rw (c.in-Aggregate.is, step_of-Aggregate) (sym (ap (λ l. slice_get l 0) (step_results-Aggregate (rule_of c.args.rule) c.args.m.now (readings c.args.c.now) (shape_behind c.args.m.now (readings c.args.c.now) c.args.start.now (map step_of c.args.before.now)) _)))

pub in_step-returns-in-TopBy : goal.in_step-returns-in-TopBy
in_step-returns-in-TopBy t c = rw (c.in-TopBy.is, step_of-TopBy) (sym (ap (λ l. slice_get l 0) (step_results-TopBy (rule_of c.args.rule) c.args.m.now (readings c.args.c.now) (shape_behind c.args.m.now (readings c.args.c.now) c.args.start.now (map step_of c.args.before.now)) _)))

pub in_step-returns-in-Traverse : goal.in_step-returns-in-Traverse
in_step-returns-in-Traverse t c = rw (c.in-Traverse.is, step_of-Traverse) (sym (ap (λ l. slice_get l 0) (step_results-Traverse (rule_of c.args.rule) c.args.m.now (readings c.args.c.now) (shape_behind c.args.m.now (readings c.args.c.now) c.args.start.now (map step_of c.args.before.now)) _)))

pub in_key-returns-in-Plain : goal.in_key-returns-in-Plain
in_key-returns-in-Plain t c = rw (c.in-Plain.is, key_of-Plain) (sym (ap (λ l. slice_get l 0) (key_results-Plain (rule_of c.args.rule) c.args.m.now (readings c.args.c.now) _)))

pub in_key-returns-in-Rollup : goal.in_key-returns-in-Rollup
in_key-returns-in-Rollup t c = rw (c.in-Rollup.is, key_of-Rollup) (sym (ap (λ l. slice_get l 0) (key_results-Rollup (rule_of c.args.rule) c.args.m.now (readings c.args.c.now) _ _)))

pub in_nodes-returns-in-None : goal.in_nodes-returns-in-None
in_nodes-returns-in-None t c = rw c.in-None.is (sym (first-Recursive_alone (rule_of c.args.rule) c.args.m.now (readings c.args.c.now) (hier_of c.args.hier.now) c.args.path.now))

pub in_groups-returns-in-None : goal.in_groups-returns-in-None
in_groups-returns-in-None t c = rw c.in-None.is (sym (first-NoPipe (rule_of c.args.rule) c.args.m.now (readings c.args.c.now) (shape_behind c.args.m.now (readings c.args.c.now) c.args.start.now (map step_of c.args.before.now))))

-- ---- the steps of a pipeline

pub in_pipe-loop-i-init : goal.in_pipe-loop-i-init
in_pipe-loop-i-init t c = walked-start (rule_of c.args.rule) c.args.m.now (readings c.args.c.now) c.args.start.now (map step_of c.steps-steps.result.now)

pub in_pipe-returns-in-Some : goal.in_pipe-returns-in-Some
in_pipe-returns-in-Some t c =
    here-answer (rule_of c.args.rule) c.args.m.now (readings c.args.c.now) step_of c.args.start.now c.steps-steps.result.now c.loop-i.i c.index-steps-i.result c.loop-i-test.true c.index-steps-i.is c.loop-i.invariant
    (map step_of c.in-Some.made.items) (pipe_of c.args.pipe.now) (pipe_of c.in_ok-with_rest.field-0)
    (sym (ap (option_map (λ v. map step_of v.items)) c.in-Some.is) ∙ c.in_ok-made.ensures.value) c.steps-steps.ensures.tree c.in_ok-with_rest.ensures

pub in_pipe-returns-in-Some-2 : goal.in_pipe-returns-in-Some-2
in_pipe-returns-in-Some-2 t c =
    inside-answer (rule_of c.args.rule) c.args.m.now (readings c.args.c.now) step_of c.args.start.now c.steps-steps.result.now c.loop-i.i c.index-steps-i.result c.loop-i-test.true c.index-steps-i.is c.loop-i.invariant
    (step_of c.in-Some-2.made) (pipe_of c.args.pipe.now) (pipe_of c.in_ok-with_step.field-0)
    (sym (ap (option_map (λ v. map step_of v.items)) c.in_default.is) ∙ c.in_ok-made.ensures.value) (sym (ap (option_map step_of) c.in-Some-2.is) ∙ c.in_ok-made-2.ensures) c.steps-steps.ensures.tree c.in_ok-with_step.ensures

pub in_pipe-loop-i-preserved : goal.in_pipe-loop-i-preserved
in_pipe-loop-i-preserved t c =
    past-answer (rule_of c.args.rule) c.args.m.now (readings c.args.c.now) step_of c.args.start.now c.steps-steps.result.now c.loop-i.i c.index-steps-i.result c.loop-i-test.true c.index-steps-i.is c.loop-i.invariant
    (sym (ap (option_map (λ v. map step_of v.items)) c.in_default.is) ∙ c.in_ok-made.ensures.value) (sym (ap (option_map step_of) c.in_default-2.is) ∙ c.in_ok-made-2.ensures)

pub in_pipe-returns : goal.in_pipe-returns
in_pipe-returns t c =
    let end : length c.steps-steps.result.now ≤ c.loop-i.i = omega (arith, c.loop-i-test.false) in
    nowhere-answer (rule_of c.args.rule) c.args.m.now (readings c.args.c.now) step_of c.args.start.now c.steps-steps.result.now c.loop-i.i (pipe_of c.args.pipe.now) end c.loop-i.invariant c.steps-steps.ensures.tree

-- ---- groupings

pub in_step-returns-in_ok-copy_inner-in-Some : goal.in_step-returns-in_ok-copy_inner-in-Some
in_step-returns-in_ok-copy_inner-in-Some t c =
    group_keys-answer (rule_of c.args.rule) c.args.m.now (readings c.args.c.now) (shape_behind c.args.m.now (readings c.args.c.now) c.args.start.now (map step_of c.args.before.now)) (keys_of c.in-GroupBy.keys) (keys_of c.in-Some.made) (inner_of (option_map pipe_of c.in-GroupBy.inner)) (step_of c.args.step.now) (step_of (step.GroupBy c.in-Some.made c.in_ok-copy_inner-in-Some.field-0))
    (ap step_of c.in-GroupBy.is ∙ step_of-GroupBy c.in-GroupBy.keys c.in-GroupBy.inner) (sym (ap (option_map keys_of) c.in-Some.is) ∙ c.in_ok-made-in-GroupBy.ensures)
    (step_of-GroupBy c.in-Some.made c.in_ok-copy_inner-in-Some.field-0 ∙ ap (λ i. Step.GroupBy (keys_of c.in-Some.made) (inner_of i)) c.in_ok-copy_inner-in-Some.ensures.value)

pub in_step-returns-in_ok-made-in-None : goal.in_step-returns-in_ok-made-in-None
in_step-returns-in_ok-made-in-None t c =
    group_inner-answer (rule_of c.args.rule) c.args.m.now (readings c.args.c.now) pipe_of step_of (shape_behind c.args.m.now (readings c.args.c.now) c.args.start.now (map step_of c.args.before.now)) (keys_of c.in-GroupBy.keys) (inner_of (option_map pipe_of c.in-GroupBy.inner)) c.in_ok-made-in-None.made (step_of c.args.step.now) c.with_groups.result
    (ap step_of c.in-GroupBy.is ∙ step_of-GroupBy c.in-GroupBy.keys c.in-GroupBy.inner) (sym (ap (option_map keys_of) c.in-None.is) ∙ c.in_ok-made-in-GroupBy.ensures) c.in_ok-made-in-None.ensures c.with_groups.ensures

pub in_groups-returns-in_ok-shape-in-Some : goal.in_groups-returns-in_ok-shape-in-Some
in_groups-returns-in_ok-shape-in-Some t c =
    groups-answer (rule_of c.args.rule) c.args.m.now (readings c.args.c.now) pipe_of (shape_behind c.args.m.now (readings c.args.c.now) c.args.start.now (map step_of c.args.before.now)) _ (pipe_of c.in-Some.pipe) (inner_of (option_map pipe_of c.args.inner.now)) c.in_pipe.result
    (ap (λ i. inner_of (option_map pipe_of i)) c.in-Some.is) c.in_ok-shape-in-Some.ensures.value c.in_pipe.ensures

-- ---- keys

pub in_keys-returns-in-Some : goal.in_keys-returns-in-Some
in_keys-returns-in-Some t c =
    keys-answer (rule_of c.args.rule) c.args.m.now (readings c.args.c.now) key_of c.as_slice-all.result.now c.loop-i.i c.index-all-i.result (key_of c.in-Some.made) (keys_of c.args.keys.now) (keys_of c.in_ok-with_key.field-0) c.loop-i-test.true c.index-all-i.is c.loop-i.invariant
    (sym (ap (option_map key_of) c.in-Some.is) ∙ c.in_ok-made.ensures) (keys_of-is c.args.keys.now ∙ ap (λ l. keys_from (map key_of l)) (sym c.as_slice-all.ensures.value)) c.in_ok-with_key.ensures

pub in_keys-returns : goal.in_keys-returns
in_keys-returns t c =
    let end : length c.as_slice-all.result.now ≤ c.loop-i.i = omega (arith, c.loop-i-test.false) in
    keys-answer_none (rule_of c.args.rule) c.args.m.now (readings c.args.c.now) key_of c.as_slice-all.result.now c.loop-i.i (keys_of c.args.keys.now) end c.loop-i.invariant (keys_of-is c.args.keys.now ∙ ap (λ l. keys_from (map key_of l)) (sym c.as_slice-all.ensures.value))

pub in_nodes-returns-in_ok-made-in-Some : goal.in_nodes-returns-in_ok-made-in-Some
in_nodes-returns-in_ok-made-in-Some t c =
    nodes-answer (rule_of c.args.rule) c.args.m.now (readings c.args.c.now) key_of (hier_of c.args.hier.now) c.args.path.now (pipe_of c.in-Some.pipe) c.type_of-of.result (option_map pipe_of c.in_ok-made-in-Some.made) (Key.Recursive (hier_of c.args.hier.now) c.args.path.now (inner_of (option_map pipe_of c.args.inner.now))) c.with_nodes.result
    (ap (λ i. Key.Recursive (hier_of c.args.hier.now) c.args.path.now (inner_of (option_map pipe_of i))) c.in-Some.is) (c.type_of-of.ensures.value ∙ ap (option_map (λ x. x.0)) c.nodes_of.ensures.value) c.in_ok-made-in-Some.ensures c.with_nodes.ensures

-- ---- concatenations, joins and climbs

pub in_concat-returns-in-Some : goal.in_concat-returns-in-Some
in_concat-returns-in-Some t c =
    concat-answer (rule_of c.args.rule) c.args.m.now (readings c.args.c.now) (shape_behind c.args.m.now (readings c.args.c.now) c.args.start.now (map step_of c.args.before.now)) _ (pipes_of c.args.branches.now) (pipes_of c.in-Some.branches) (step_of (step.Concat c.in-Some.branches)) (sym (ap (option_map pipes_of) c.in-Some.is) ∙ c.in_ok-branches.ensures) c.in_ok-shape.ensures.value (step_of-Concat c.in-Some.branches)

pub in_concat-returns : goal.in_concat-returns
in_concat-returns t c = concat-answer_none (rule_of c.args.rule) c.args.m.now (readings c.args.c.now) (shape_behind c.args.m.now (readings c.args.c.now) c.args.start.now (map step_of c.args.before.now)) _ (pipes_of c.args.branches.now) (sym (ap (option_map pipes_of) c.in-None.is) ∙ c.in_ok-branches.ensures) c.in_ok-shape.ensures.value

pub in_branches-returns-in-Some : goal.in_branches-returns-in-Some
in_branches-returns-in-Some t c =
    branches-answer (rule_of c.args.rule) c.args.m.now (readings c.args.c.now) c.args.shape.now pipe_of c.as_slice-all.result.now c.loop-i.i c.index-all-i.result (pipe_of c.in-Some.made) (pipes_of c.args.branches.now) (pipes_of c.in_ok-with_branch.field-0) c.loop-i-test.true c.index-all-i.is c.loop-i.invariant
    (sym (ap (option_map pipe_of) c.in-Some.is) ∙ c.in_ok-made.ensures) (pipes_of-is c.args.branches.now ∙ ap (λ l. pipes_from (map pipe_of l)) (sym c.as_slice-all.ensures.value)) c.in_ok-with_branch.ensures

pub in_branches-returns : goal.in_branches-returns
in_branches-returns t c =
    let end : length c.as_slice-all.result.now ≤ c.loop-i.i = omega (arith, c.loop-i-test.false) in
    branches-answer_none (rule_of c.args.rule) c.args.m.now (readings c.args.c.now) c.args.shape.now pipe_of c.as_slice-all.result.now c.loop-i.i (pipes_of c.args.branches.now) end c.loop-i.invariant (pipes_of-is c.args.branches.now ∙ ap (λ l. pipes_from (map pipe_of l)) (sym c.as_slice-all.ensures.value))

pub in_join-returns-in_ok-made-in-Some : goal.in_join-returns-in_ok-made-in-Some
in_join-returns-in_ok-made-in-Some t c =
    let j = out-JoinStep c.args.join.now in
    join-answer (rule_of c.args.rule) c.args.m.now (readings c.args.c.now) step_of (shape_behind c.args.m.now (readings c.args.c.now) c.args.start.now (map step_of c.args.before.now)) _ j.outer j.nav j.alias (pipe_of c.in-Some.pipe) c.join_target-of.result (option_map pipe_of c.in_ok-made-in-Some.made) (join_of c.args.join.now) c.with_related.result
    (join_of-is c.args.join.now ∙ ap (λ i. Step.Join j.outer j.nav j.alias (inner_of (option_map pipe_of i))) c.in-Some.is) c.in_ok-shape-in-Some.ensures.value c.join_target-of.ensures.value c.in_ok-made-in-Some.ensures c.with_related.ensures

pub in_join-returns-in-None : goal.in_join-returns-in-None
in_join-returns-in-None t c =
    let j = out-JoinStep c.args.join.now in
    sym (ap (first_in_step (rule_of c.args.rule) c.args.m.now (readings c.args.c.now) (shape_behind c.args.m.now (readings c.args.c.now) c.args.start.now (map step_of c.args.before.now))) (join_of-is c.args.join.now ∙ ap (λ i. Step.Join j.outer j.nav j.alias (inner_of (option_map pipe_of i))) c.in-None.is)
    ∙ first-Join_alone (rule_of c.args.rule) c.args.m.now (readings c.args.c.now) (shape_behind c.args.m.now (readings c.args.c.now) c.args.start.now (map step_of c.args.before.now)) j.outer j.nav j.alias)

pub in_climb-returns : goal.in_climb-returns
in_climb-returns t c =
    let k = c.args.climb.now in
    climb-answer (rule_of c.args.rule) c.args.m.now (readings c.args.c.now) step_of (shape_behind c.args.m.now (readings c.args.c.now) c.args.start.now (map step_of c.args.before.now)) _ k.up (hier_of k.hier) k.path (pipe_of k.inner) k.distance k.keep (option_map pipe_of c.in_ok-made.made) (climb_of k) c.with_starts.result (climb_of-is k) c.in_ok-shape.ensures.value c.in_ok-made.ensures c.with_starts.ensures.value

-- ---- what is typed at each place

pub in_step-grouping_is_typed-requires-clause-grouping : goal.in_step-grouping_is_typed-requires-clause-grouping
in_step-grouping_is_typed-requires-clause-grouping t c = ap step_of c.in-GroupBy.is ∙ step_of-GroupBy c.in-GroupBy.keys c.in-GroupBy.inner

pub in_keys-key_is_typed-requires-clause-whole : goal.in_keys-key_is_typed-requires-clause-whole
in_keys-key_is_typed-requires-clause-whole t c = keys_of-is c.args.keys.now ∙ ap (λ l. keys_from (map key_of l)) (sym c.as_slice-all.ensures.value)

pub in_nodes-nodes_are_typed-requires-clause-of : goal.in_nodes-nodes_are_typed-requires-clause-of
in_nodes-nodes_are_typed-requires-clause-of t c = c.type_of-of.ensures.value ∙ ap (option_map (λ x. x.0)) c.nodes_of.ensures.value

pub in_branches-branch_is_typed-requires-clause-whole : goal.in_branches-branch_is_typed-requires-clause-whole
in_branches-branch_is_typed-requires-clause-whole t c = pipes_of-is c.args.branches.now ∙ ap (λ l. pipes_from (map pipe_of l)) (sym c.as_slice-all.ensures.value)
