use Rattle.std.proofs.Common.{rules, ◌≡◌, ◌+◌, ◌∙◌, ap, sym, subst, map, drop, option_map, None, arith}
use Rattle.std.proofs.Math.ListN.{drop_of_length-le}
use Rattle.apply_ast.specs.Trees.{pipe}
use Rattle.apply_ast.specs.Views.{inner_of, keys_of, pipe_of, pipes_from, pipes_of, step_of}
use Rattle.apply_ast.proofs.ViewEquations.{climb_of-is, join_of-is, step_of-Aggregate, step_of-Climb, step_of-Compute, step_of-Concat, step_of-Filter, step_of-GroupBy, step_of-Identity, step_of-Join, step_of-OrderBy, step_of-Skip, step_of-Top, step_of-TopBy, step_of-Traverse}
use Rattle.apply_meaning.proofs.RunLemmas.{next-step}
use Rattle.step_run.specs.Roots.{InnerLeadsTo, LeadsTo, PipeLeadsTo}
use Rattle.step_run.proofs.BranchRoots.{branches-typed, passed-all, passed-next, passed-none}
use Rattle.step_run.proofs.NextItems.{next-branch}
use Rattle.step_run.proofs.RootLemmas.{last-root, next-root, root-Aggregate, root-Climb, root-Compute, root-Concat, root-Filter, root-GroupBy, root-Identity, root-Join, root-OrderBy, root-Skip, root-Top, root-TopBy, root-Traverse, root-inner, root-none}
use Rattle.step_run.proofs.roots.+roots.Goals as goal

pub root_after-returns-in-GroupBy : goal.root_after-returns-in-GroupBy
root_after-returns-in-GroupBy t c =
    let e = ap step_of c.in-GroupBy.is ∙ step_of-GroupBy c.in-GroupBy.field-0 c.in-GroupBy.inner in
    record { value = subst (λ s. LeadsTo s c.args.root c.root_inside.result) (sym e) (root-GroupBy (keys_of c.in-GroupBy.field-0) (inner_of (option_map pipe_of c.in-GroupBy.inner)) c.args.root c.root_inside.result c.root_inside.ensures) }

pub root_after-returns-in-Aggregate : goal.root_after-returns-in-Aggregate
root_after-returns-in-Aggregate t c =
    let e = ap step_of c.in-Aggregate.is ∙ step_of-Aggregate c.in-Aggregate.field-0 in
    record { value = subst (λ s. LeadsTo s c.args.root None) (sym e) (root-Aggregate _ c.args.root) }

pub root_inside-returns-in-Some : goal.root_inside-returns-in-Some
root_inside-returns-in-Some t c =
    subst (λ o. InnerLeadsTo (inner_of (option_map pipe_of o)) c.args.root c.root_behind.result) (sym c.in-Some.is) (root-inner (pipe_of c.in-Some.pipe) c.args.root c.root_behind.result c.root_behind.ensures)

pub root_inside-returns-in-None : goal.root_inside-returns-in-None
root_inside-returns-in-None t c = subst (λ o. InnerLeadsTo (inner_of (option_map pipe_of o)) c.args.root None) (sym c.in-None.is) (root-none c.args.root)

pub root_behind-loop-step-preserved : goal.root_behind-loop-step-preserved
root_behind-loop-step-preserved t c =
    let ss = c.steps-step-items.result.now in
    let d = c.step-item.result in
    let e = c.step-item.is in
    λ m c' S S' h r.
    let i = c.loop-step.invariant m c' S S' h r in
    next-root m c' i.0 S' _ (step_of d) (pipe (map step_of (drop (c.loop-step.step-index + 1) ss))) c.loop-step.root c.root_after-root.result (next-step ss c.loop-step.step-index d c.loop-step-test.true e) c.root_after-root.ensures.value i.1 i.2

pub root_behind-returns : goal.root_behind-returns
root_behind-returns t c = λ m c' S S' h r.
    let i = c.loop-step.invariant m c' S S' h r in
    last-root m c' i.0 S' _ c.loop-step.root (ap (λ ss. pipe (map step_of ss)) (drop_of_length-le c.steps-step-items.result.now (omega (arith, c.loop-step-test.false)))) i.1 i.2

pub root_after-returns-in-Identity : goal.root_after-returns-in-Identity
root_after-returns-in-Identity t c = record { value = subst (λ s. LeadsTo s c.args.root c.args.root) (sym (ap step_of c.in-Identity.is ∙ step_of-Identity)) (root-Identity c.args.root) }

pub root_after-returns-in-Filter : goal.root_after-returns-in-Filter
root_after-returns-in-Filter t c = record { value = subst (λ s. LeadsTo s c.args.root c.args.root) (sym (ap step_of c.in-Filter.is ∙ step_of-Filter c.in-Filter.field-0)) (root-Filter _ c.args.root) }

pub root_after-returns-in-Compute : goal.root_after-returns-in-Compute
root_after-returns-in-Compute t c = record { value = subst (λ s. LeadsTo s c.args.root c.args.root) (sym (ap step_of c.in-Compute.is ∙ step_of-Compute c.in-Compute.field-0)) (root-Compute _ c.args.root) }

pub root_after-returns-in-OrderBy : goal.root_after-returns-in-OrderBy
root_after-returns-in-OrderBy t c = record { value = subst (λ s. LeadsTo s c.args.root c.args.root) (sym (ap step_of c.in-OrderBy.is ∙ step_of-OrderBy c.in-OrderBy.field-0)) (root-OrderBy _ c.args.root) }

pub root_after-returns-in-Skip : goal.root_after-returns-in-Skip
root_after-returns-in-Skip t c = record { value = subst (λ s. LeadsTo s c.args.root c.args.root) (sym (ap step_of c.in-Skip.is ∙ step_of-Skip c.in-Skip.field-0)) (root-Skip _ c.args.root) }

pub root_after-returns-in-Top : goal.root_after-returns-in-Top
root_after-returns-in-Top t c = record { value = subst (λ s. LeadsTo s c.args.root c.args.root) (sym (ap step_of c.in-Top.is ∙ step_of-Top c.in-Top.field-0)) (root-Top _ c.args.root) }

pub root_after-returns-in-Concat : goal.root_after-returns-in-Concat
root_after-returns-in-Concat t c =
    let e = ap step_of c.in-Concat.is ∙ step_of-Concat c.in-Concat.branches in
    record { value = subst (λ s. LeadsTo s c.args.root c.root_of_branches.result) (sym e) (root-Concat (pipes_of c.in-Concat.branches) c.args.root c.root_of_branches.result c.root_of_branches.ensures) }

pub root_after-returns-in-Join : goal.root_after-returns-in-Join
root_after-returns-in-Join t c =
    record { value = subst (λ s. LeadsTo s c.args.root c.args.root) (sym (ap step_of c.in-Join.is ∙ step_of-Join c.in-Join.field-0 ∙ join_of-is c.in-Join.field-0)) (root-Join _ _ _ _ c.args.root) }

pub root_after-returns-in-TopBy : goal.root_after-returns-in-TopBy
root_after-returns-in-TopBy t c = record { value = subst (λ s. LeadsTo s c.args.root c.args.root) (sym (ap step_of c.in-TopBy.is ∙ step_of-TopBy c.in-TopBy.field-0)) (root-TopBy _ c.args.root) }

pub root_after-returns-in-Climb : goal.root_after-returns-in-Climb
root_after-returns-in-Climb t c =
    record { value = subst (λ s. LeadsTo s c.args.root c.args.root) (sym (ap step_of c.in-Climb.is ∙ step_of-Climb c.in-Climb.field-0 ∙ climb_of-is c.in-Climb.field-0)) (root-Climb _ _ _ _ _ _ c.args.root) }

pub root_after-returns-in-Traverse : goal.root_after-returns-in-Traverse
root_after-returns-in-Traverse t c = record { value = subst (λ s. LeadsTo s c.args.root c.args.root) (sym (ap step_of c.in-Traverse.is ∙ step_of-Traverse c.in-Traverse.field-0)) (root-Traverse _ c.args.root) }

pub root_of_branches-returns-in_err-behind : goal.root_of_branches-returns-in_err-behind
root_of_branches-returns-in_err-behind t c =
    let ps = c.as_slice-branch-items.result.now in
    let d = c.branch-item.result in
    let k = c.loop-branch.branch-index in
    let leads = subst (PipeLeadsTo (pipe_of d) c.args.root.now) c.in_err-behind.was c.root_behind.ensures in
    let none : c.from_residual.result ≡ None = search rules in
    λ m c' S S' h r.
    let b = branches-typed m c' S S' (pipes_of c.args.branches.now) h in
    passed-none m c' S S' b.0 _ (pipe_of d) (pipes_from (map pipe_of (drop (k + 1) ps))) c.args.root.now c.loop-branch.first
    (next-branch ps k d c.loop-branch-test.true c.branch-item.is) leads r (c.loop-branch.invariant m c' S b.0 b.1 r) b.2
    ∙ sym none

pub root_of_branches-loop-branch-preserved : goal.root_of_branches-loop-branch-preserved
root_of_branches-loop-branch-preserved t c =
    let ps = c.as_slice-branch-items.result.now in
    let d = c.branch-item.result in
    let k = c.loop-branch.branch-index in
    let leads = subst (PipeLeadsTo (pipe_of d) c.args.root.now) c.in_ok-behind.was c.root_behind.ensures in
    λ m c' S Ss h r.
    rw (c.or-first.ensures)
    (passed-next m c' S Ss _ (pipe_of d) (pipes_from (map pipe_of (drop (k + 1) ps))) c.args.root.now c.loop-branch.first c.in_ok-behind.behind (next-branch ps k d c.loop-branch-test.true c.branch-item.is) leads r
    (c.loop-branch.invariant m c' S Ss h r))

pub root_of_branches-returns : goal.root_of_branches-returns
root_of_branches-returns t c = λ m c' S S' h r.
    let b = branches-typed m c' S S' (pipes_of c.args.branches.now) h in
    passed-all m c' S S' b.0 _ c.loop-branch.first (ap (λ ps. pipes_from (map pipe_of ps)) (drop_of_length-le c.as_slice-branch-items.result.now (omega (arith, c.loop-branch-test.false))))
    (c.loop-branch.invariant m c' S b.0 b.1 r) b.2
