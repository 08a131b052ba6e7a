use Rattle.std.proofs.Common.{◌≡◌, refl, sym, ◌∙◌, ap, subst, ◌+◌, true, not, Some, map, arith}
use Rattle.std.specs.Prelude.{Bool, IfOk, List, Option, option_map}
use Rattle.std.specs.Bool.{then_some}
use Rattle.std.specs.List.{list_all}
use Rattle.apply_ast.specs.Trees.{Pipe}
use Rattle.apply_ast.specs.declared.steps.JoinStep.{out-JoinStep}
use Rattle.context_typing.specs.Shapes.{Shape}
use Rattle.context_typing.specs.ShapeTypes.{has_types}
use Rattle.apply_ast.specs.Views.{hier_of, inner_of, key_of, keys_from, keys_of, pipe_of, pipes_from, pipes_of, step_of}
use Rattle.apply_ast.proofs.ViewEquations.{key_of-Plain, key_of-Rollup, step_of-Identity, step_of-Compute, step_of-Skip, step_of-Top, step_of-Aggregate, step_of-GroupBy, climb_of-is, join_of-is, keys_of-is, pipes_of-is}
use Rattle.context_typing.specs.Outcomes.{Outcome, outcome, step_outcome}
use Rattle.context_typing.specs.Readings.{readings}
use Rattle.context_typing.specs.Typing.{IsUntypedAt, concat_shape, group_keys, no_shape}
use Rattle.context_typing.specs.Walks.{IsWalk, climb_outcome, recursive_outcome, group_outcome, join_outcome, related_outcome, kept, long_outcome}
use Rattle.context_typing.proofs.OutcomeFacts.{long-types, outcome-Climb, outcome-Recursive, outcome-GroupBy, outcome-Join, keys-start, keys-next, keys-missing, keys-all, branches-start, branches-next, branches-missing, branches-all, branch-types, long_typed, long_untyped, outcome-Concat, outcome-untyped_branch, outcome-Identity, outcome-Compute, outcome-Skip, outcome-Top, outcome-Aggregate, inner-some, inner-none}
use Rattle.context_typing.proofs.TypesKept.{step-types}
use Rattle.context_typing.proofs.TypingEquations.{key_typed-Plain, key_quiet-Plain, key_typed-Rollup, key_quiet-Rollup}
use Rattle.context_typing.proofs.WalkFacts.{outcome-parts, walk-start, walk-next, walk-all, walk-missing, long-steps}
use Rattle.context_typing.proofs.steps.+typing.Goals as goal

pub type_concat-concat_shape-requires : goal.type_concat-concat_shape-requires
type_concat-concat_shape-requires t c =
    ap (list_all (has_types c.args.m.now)) c.deref.ensures.value ∙ branch-types c.args.m.now (readings c.args.c.now) c.requires.sound c.args.shape.now (pipes_of c.args.branches.now) c.in-Some.shapes.items c.in-Some.quiet c.requires.types (ap (option_map {U = List Shape × Bool} (λ x. (x.0.items, x.1))) (sym c.in-Some.is) ∙ c.in_ok-shapes.ensures)

pub type_concat-returns-in-Some-2 : goal.type_concat-returns-in-Some-2
type_concat-returns-in-Some-2 t c =
    ap (λ o. outcome o c.in-Some.quiet) (sym c.in-Some-2.is ∙ c.in_ok-shape-in-Some.ensures.value ∙ ap (concat_shape c.args.m.now) c.deref.ensures.value) ∙ outcome-Concat c.args.m.now (readings c.args.c.now) c.args.shape.now (pipes_of c.args.branches.now) c.in-Some.shapes.items c.in-Some.quiet (ap (option_map {U = List Shape × Bool} (λ x. (x.0.items, x.1))) (sym c.in-Some.is) ∙ c.in_ok-shapes.ensures)

pub type_concat-returns-in-Some : goal.type_concat-returns-in-Some
type_concat-returns-in-Some t c =
    ap (λ o. outcome o c.in-Some.quiet) (sym c.in-None-2.is ∙ c.in_ok-shape-in-Some.ensures.value ∙ ap (concat_shape c.args.m.now) c.deref.ensures.value) ∙ outcome-Concat c.args.m.now (readings c.args.c.now) c.args.shape.now (pipes_of c.args.branches.now) c.in-Some.shapes.items c.in-Some.quiet (ap (option_map {U = List Shape × Bool} (λ x. (x.0.items, x.1))) (sym c.in-Some.is) ∙ c.in_ok-shapes.ensures)

pub type_concat-returns : goal.type_concat-returns
type_concat-returns t c =
    outcome-untyped_branch c.args.m.now (readings c.args.c.now) c.args.shape.now (pipes_of c.args.branches.now) (ap (option_map {U = List Shape × Bool} (λ x. (x.0.items, x.1))) (sym c.in-None.is) ∙ c.in_ok-shapes.ensures)

pub type_groups-returns-in_ok-copy-in-Some : goal.type_groups-returns-in_ok-copy-in-Some
type_groups-returns-in_ok-copy-in-Some t c =
    rw (c.in-Some.is, inner-some, ← c.in_ok-copy-in-Some.ensures.value) c.type_long.ensures

pub type_groups-returns-in-None : goal.type_groups-returns-in-None
type_groups-returns-in-None t c =
    rw (c.in-None.is, inner-none) (ap (λ S. Some (record { shape = S; quiet = true })) (c.bare_shape.ensures ∙ ap (λ cs. record no_shape { columns = cs }) c.empty.ensures))

pub type_key-returns-in-Plain : goal.type_key-returns-in-Plain
type_key-returns-in-Plain t c =
    rw (c.in-Plain.is, key_of-Plain) (ap (λ b. Some (not b)) c.is_risky.ensures.value ∙ sym (λ i. then_some (key_typed-Plain c.args.m.now (readings c.args.c.now) c.args.shape.now c.in-Plain.path i) (key_quiet-Plain c.args.m.now (readings c.args.c.now) c.args.shape.now c.in-Plain.path i)))

pub type_key-returns-in-Rollup : goal.type_key-returns-in-Rollup
type_key-returns-in-Rollup t c =
    rw (c.in-Rollup.is, key_of-Rollup) (c.type_levels.ensures ∙ sym (λ i. then_some (key_typed-Rollup c.args.m.now (readings c.args.c.now) c.args.shape.now c.in-Rollup.all c.in-Rollup.paths i) (key_quiet-Rollup c.args.m.now (readings c.args.c.now) c.args.shape.now c.in-Rollup.all c.in-Rollup.paths i)))

pub type_long-returns-in-Typed : goal.type_long-returns-in-Typed
type_long-returns-in-Typed t c =
    long_typed c.args.m.now (readings c.args.c.now) c.args.shape (pipe_of c.args.pipe.now) c.in-Typed.outcome c.in_ok-outcome.ensures.long
    (subst (IsWalk c.args.m.now (readings c.args.c.now) c.args.shape (pipe_of c.args.pipe.now)) c.in-Typed.is c.in_ok-outcome.ensures.walk)

pub type_long-returns-in-Untyped : goal.type_long-returns-in-Untyped
type_long-returns-in-Untyped t c =
    long_untyped c.args.m.now (readings c.args.c.now) c.args.shape (pipe_of c.args.pipe.now) c.in-Untyped.field-0 c.in_ok-outcome.ensures.long
    (subst (IsWalk c.args.m.now (readings c.args.c.now) c.args.shape (pipe_of c.args.pipe.now)) c.in-Untyped.is c.in_ok-outcome.ensures.walk)

pub type_on_set-returns-in-Some : goal.type_on_set-returns-in-Some
type_on_set-returns-in-Some t c =
    rw (c.in-Some.is, inner-some, ← c.set_shape-shape.ensures.value) c.type_long.ensures

pub type_on_set-returns-in-None : goal.type_on_set-returns-in-None
type_on_set-returns-in-None t c =
    rw (c.in-None.is, inner-none, ← c.set_shape-shape.ensures.value) refl

pub type_step-returns-in-Identity : goal.type_step-returns-in-Identity
type_step-returns-in-Identity t c =
    record { value = rw (c.in-Identity.is, step_of-Identity) (c.kept.ensures ∙ outcome-Identity c.args.m.now (readings c.args.c.now) c.args.shape) }

pub type_step-returns-in_ok-compute_shape-in-Compute :
    goal.type_step-returns-in_ok-compute_shape-in-Compute
type_step-returns-in_ok-compute_shape-in-Compute t c =
    record { value = rw (c.in-Compute.is, step_of-Compute) (c.quiet.ensures ∙ ap (λ o. outcome o true) c.in_ok-compute_shape-in-Compute.ensures ∙ outcome-Compute c.args.m.now (readings c.args.c.now) c.args.shape _) }

pub type_step-returns-in-Skip : goal.type_step-returns-in-Skip
type_step-returns-in-Skip t c =
    record { value = rw (c.in-Skip.is, step_of-Skip) (c.kept-in-Skip.ensures ∙ ap (λ b. kept c.args.shape b true) c.is_count.ensures ∙ outcome-Skip c.args.m.now (readings c.args.c.now) c.args.shape c.in-Skip.n) }

pub type_step-returns-in-Top : goal.type_step-returns-in-Top
type_step-returns-in-Top t c =
    record { value = rw (c.in-Top.is, step_of-Top) (c.kept-in-Top.ensures ∙ ap (λ b. kept c.args.shape b true) c.is_count-in-Top.ensures ∙ outcome-Top c.args.m.now (readings c.args.c.now) c.args.shape c.in-Top.n) }

pub type_step-returns-in_ok-aggregate_shape-in-Aggregate :
    goal.type_step-returns-in_ok-aggregate_shape-in-Aggregate
type_step-returns-in_ok-aggregate_shape-in-Aggregate t c =
    record { value = rw (c.in-Aggregate.is, step_of-Aggregate) (c.quiet-in-Aggregate.ensures ∙ ap (λ o. outcome o true) c.in_ok-aggregate_shape-in-Aggregate.ensures ∙ outcome-Aggregate c.args.m.now (readings c.args.c.now) c.args.shape _) }

pub type_steps-loop-i-preserved : goal.type_steps-loop-i-preserved
type_steps-loop-i-preserved t c =
    let m = c.args.m.now in
    let cs = readings c.args.c.now in
    let x : Outcome = record { shape = c.loop-i.shape; quiet = c.loop-i.quiet } in
    let y : Outcome = record { shape = c.next.inside.shape; quiet = c.next.inside.quiet } in
    let e : step_outcome m cs c.loop-i.shape (step_of c.step-item.result) ≡ Some y = sym c.in_ok-next.ensures.value ∙ c.in-Some.is ∙ ap Some (sym c.next.view_is) in (
      step-types m cs c.requires.sound (step_of c.step-item.result) c.loop-i.shape c.next.inside.shape c.loop-i.invariant.0 (outcome-parts _ _ y e).0,
      walk-next m cs c.args.shape step_of c.steps-step-items.result.now c.loop-i.i c.step-item.result x y (omega arith) c.step-item.is c.loop-i.invariant.1 e
          ∙ ap (λ q. Some (record { shape = c.next.inside.shape; quiet = q })) (sym c.both-both_quiet.ensures),
    )

pub type_steps-returns-clause-walk : goal.type_steps-returns-clause-walk
type_steps-returns-clause-walk t c =
    walk-all c.args.m.now (readings c.args.c.now) c.args.shape step_of c.steps-step-items.result.now c.loop-i.i (record { shape = c.loop-i.shape; quiet = c.loop-i.quiet }) (pipe_of c.args.pipe.now)
    c.loop-i-test.false c.steps-step-items.ensures.tree c.loop-i.invariant.1

pub type_steps-returns-in-None-clause-walk : goal.type_steps-returns-in-None-clause-walk
type_steps-returns-in-None-clause-walk t c =
    let P : Pipe → Type 0 = λ p. IsUntypedAt c.args.m.now (readings c.args.c.now) c.args.shape p (c.loop-i.i + 1) in
    subst P (sym c.steps-step-items.ensures.tree)
    (walk-missing c.args.m.now (readings c.args.c.now) c.args.shape step_of c.steps-step-items.result.now c.loop-i.i c.step-item.result (record { shape = c.loop-i.shape; quiet = c.loop-i.quiet }) (omega arith) c.step-item.is c.loop-i.invariant.1 (sym c.in-None.is ∙ c.in_ok-next.ensures.value))

pub type_steps-loop-i-init : goal.type_steps-loop-i-init
type_steps-loop-i-init t c =
    (c.requires.types, walk-start c.args.m.now (readings c.args.c.now) c.args.shape)

pub type_keys-loop-key-init : goal.type_keys-loop-key-init
type_keys-loop-key-init t c = keys-start c.args.m.now (readings c.args.c.now) c.args.shape.now

pub type_keys-loop-key-preserved : goal.type_keys-loop-key-preserved
type_keys-loop-key-preserved t c =
    keys-next c.args.m.now (readings c.args.c.now) c.args.shape.now key_of c.as_slice-key-items.result.now c.loop-key.key-index c.key-item.result c.loop-key.quiet c.in-Some.next (omega arith) c.key-item.is c.loop-key.invariant
    (sym c.in_ok-next.ensures ∙ c.in-Some.is) ∙ ap Some (sym c.both-both_quiet.ensures)

pub type_keys-returns-in-None : goal.type_keys-returns-in-None
type_keys-returns-in-None t c =
    keys-missing c.args.m.now (readings c.args.c.now) c.args.shape.now key_of c.as_slice-key-items.result.now c.loop-key.key-index c.key-item.result (keys_of c.args.keys.now) (omega arith) c.key-item.is
    (keys_of-is c.args.keys.now ∙ ap (λ l. keys_from (map key_of l)) (sym c.as_slice-key-items.ensures.value)) (sym c.in-None.is ∙ c.in_ok-next.ensures)

pub type_keys-returns : goal.type_keys-returns
type_keys-returns t c =
    keys-all c.args.m.now (readings c.args.c.now) c.args.shape.now key_of c.as_slice-key-items.result.now c.loop-key.key-index c.loop-key.quiet (keys_of c.args.keys.now) c.loop-key-test.false
    (keys_of-is c.args.keys.now ∙ ap (λ l. keys_from (map key_of l)) (sym c.as_slice-key-items.ensures.value)) c.loop-key.invariant

pub type_branches-loop-branch-init : goal.type_branches-loop-branch-init
type_branches-loop-branch-init t c = branches-start c.args.m.now (readings c.args.c.now) c.args.shape.now ∙ ap (λ l. Some (l, true)) (sym c.new-shapes.ensures.items)

pub type_branches-loop-branch-preserved : goal.type_branches-loop-branch-preserved
type_branches-loop-branch-preserved t c =
    branches-next c.args.m.now (readings c.args.c.now) c.args.shape.now pipe_of c.as_slice-branch-items.result.now c.loop-branch.branch-index c.branch-item.result c.loop-branch.shapes.items c.loop-branch.quiet (record { shape = c.next.inside.shape; quiet = c.next.inside.quiet }) (omega arith) c.branch-item.is c.loop-branch.invariant
    (ap (λ S. long_outcome c.args.m.now (readings c.args.c.now) S (pipe_of c.branch-item.result)) (sym c.in_ok-copy.ensures.value) ∙ sym c.in_ok-next.ensures ∙ c.in-Some.is ∙ ap Some (sym c.next.view_is))
    ∙ (λ j. Some (sym c.in_ok-push-in-Some.ensures.items j, sym c.both-both_quiet.ensures j))

pub type_branches-returns-in-None : goal.type_branches-returns-in-None
type_branches-returns-in-None t c =
    branches-missing c.args.m.now (readings c.args.c.now) c.args.shape.now pipe_of c.as_slice-branch-items.result.now c.loop-branch.branch-index c.branch-item.result (pipes_of c.args.branches.now) (omega arith) c.branch-item.is
    (pipes_of-is c.args.branches.now ∙ ap (λ l. pipes_from (map pipe_of l)) (sym c.as_slice-branch-items.ensures.value))
    (sym c.in-None.is ∙ c.in_ok-next.ensures ∙ ap (λ S. long_outcome c.args.m.now (readings c.args.c.now) S (pipe_of c.branch-item.result)) c.in_ok-copy.ensures.value)

pub type_branches-returns : goal.type_branches-returns
type_branches-returns t c =
    branches-all c.args.m.now (readings c.args.c.now) c.args.shape.now pipe_of c.as_slice-branch-items.result.now c.loop-branch.branch-index c.loop-branch.shapes.items c.loop-branch.quiet (pipes_of c.args.branches.now) c.loop-branch-test.false
    (pipes_of-is c.args.branches.now ∙ ap (λ l. pipes_from (map pipe_of l)) (sym c.as_slice-branch-items.ensures.value)) c.loop-branch.invariant

pub type_step-returns-in_ok-groups-in-GroupBy : goal.type_step-returns-in_ok-groups-in-GroupBy
type_step-returns-in_ok-groups-in-GroupBy t c =
    record {
      value = let m = c.args.m.now in
          let cs = readings c.args.c.now in
          let S = c.args.shape in
          rw (c.in-GroupBy.is, step_of-GroupBy)
          (subst (λ (z : Option Outcome). IfOk c.group_outcome.result (λ o. o ≡ z))
          ((λ i. group_outcome m S (group_keys (keys_of c.in-GroupBy.keys)) (c.in_ok-keys_quiet-in-GroupBy.ensures i) (c.in_ok-groups-in-GroupBy.ensures i)) ∙ outcome-GroupBy m cs S (keys_of c.in-GroupBy.keys) (inner_of (option_map pipe_of c.in-GroupBy.inner)))
          c.group_outcome.ensures);
    }

pub type_join-returns : goal.type_join-returns
type_join-returns t c =
    let m = c.args.m.now in
    let cs = readings c.args.c.now in
    let S = c.args.shape in
    let j = out-JoinStep c.args.join.now in
    let T = inner_of (option_map pipe_of j.inner) in
    subst (λ (z : Option Outcome). IfOk c.join_outcome.result (λ o. o ≡ z))
    (ap (join_outcome m S j.outer j.alias) (c.in_ok-related.ensures ∙ ap (λ o. related_outcome m cs o T) c.join_target-target.ensures.value) ∙ outcome-Join m cs S j.outer j.nav j.alias T
    ∙ ap (step_outcome m cs S) (sym (join_of-is c.args.join.now)))
    c.join_outcome.ensures

pub type_climb-climb_outcome-requires : goal.type_climb-climb_outcome-requires
type_climb-climb_outcome-requires t c =
    record {
      types = c.requires.types;
      starts = long-types c.args.m.now (readings c.args.c.now) c.requires.sound c.in_ok-copy.field-0 (pipe_of c.args.climb.now.inner) c.in_ok-starts.starts (ap (has_types c.args.m.now) c.in_ok-copy.ensures.value ∙ c.requires.types) c.in_ok-starts.ensures;
    }

pub type_climb-returns : goal.type_climb-returns
type_climb-returns t c =
    let m = c.args.m.now in
    let cs = readings c.args.c.now in
    let S = c.args.shape in
    let j = c.args.climb.now in
    c.climb_outcome.ensures ∙ (λ i. climb_outcome m S j.path j.distance (c.nodes_of-nodes.ensures.value i) ((c.in_ok-starts.ensures ∙ ap (λ T. long_outcome m cs T (pipe_of j.inner)) c.in_ok-copy.ensures.value) i))
    ∙ outcome-Climb m cs S j.up (hier_of j.hier) j.path (pipe_of j.inner) j.distance j.keep ∙ ap (step_outcome m cs S) (sym (climb_of-is j))

pub type_recursive-returns : goal.type_recursive-returns
type_recursive-returns t c =
    let m = c.args.m.now in
    let cs = readings c.args.c.now in
    let S = c.args.shape.now in
    let T = inner_of (option_map pipe_of c.args.inner.now) in
    c.recursive_outcome.ensures
    ∙ (λ i. recursive_outcome m S c.args.path.now (c.nodes_of-nodes.ensures.value i) ((c.in_ok-inner.ensures ∙ ap (λ o. related_outcome m cs o T) (c.nodes_type.ensures.value ∙ ap (option_map (λ x. x.0)) c.nodes_of-nodes.ensures.value)) i))
    ∙ outcome-Recursive m cs S (hier_of c.args.hier.now) c.args.path.now T

pub type_steps-returns-clause-long : goal.type_steps-returns-clause-long
type_steps-returns-clause-long t c =
    long-steps step_of c.steps-step-items.result.now (pipe_of c.args.pipe.now) c.steps-step-items.ensures.tree c.steps-step-items.ensures.some

pub type_steps-returns-in-None-clause-long : goal.type_steps-returns-in-None-clause-long
type_steps-returns-in-None-clause-long t c =
    long-steps step_of c.steps-step-items.result.now (pipe_of c.args.pipe.now) c.steps-step-items.ensures.tree c.steps-step-items.ensures.some
