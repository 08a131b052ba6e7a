use Rattle.std.proofs.Common.{sym, ◌∙◌, ap, subst, Some, IsTrue, arith}
use Rattle.std.specs.Prelude.{IfSome}
use Rattle.std.specs.List.{list_all}
use Rattle.apply_ast.specs.Views.{pipe_of}
use Rattle.context_typing.specs.Readings.{readings}
use Rattle.context_typing.specs.ShapeTypes.{has_types}
use Rattle.context_typing.specs.Typing.{steps_shape}
use Rattle.rewrite_forms.proofs.BranchShapes.{all-more, shapes-end, shapes-missing, shapes-next}
use Rattle.rewrite_forms.proofs.branches.branch_shapes.Goals as goal

pub loop-branch-preserved : goal.loop-branch-preserved
loop-branch-preserved c =
    let m = c.args.m.now in
    let g = steps_shape m (readings c.args.c.now) c.args.shape.now in
    let S = c.in-Some.next in (
      ap (list_all (has_types m)) c.in_ok-push-in-Some.ensures.items
          ∙ all-more (has_types m) c.loop-branch.shapes.items S c.loop-branch.invariant.0 (subst (λ o. IfSome o (λ S. IsTrue (has_types m S))) c.in-Some.is c.in_ok-next.ensures.types),
      shapes-next pipe_of g c.args.branches.now c.loop-branch.branch-index c.branch-item.result (omega arith) c.branch-item.is c.loop-branch.shapes.items S c.loop-branch.invariant.1
          (sym c.in-Some.is ∙ c.in_ok-next.ensures.value ∙ ap g (sym c.steps.ensures.tree))
          ∙ ap Some (sym c.in_ok-push-in-Some.ensures.items),
    )

pub returns-in-None-clause-value : goal.returns-in-None-clause-value
returns-in-None-clause-value c =
    let g = steps_shape c.args.m.now (readings c.args.c.now) c.args.shape.now in
    shapes-missing pipe_of g c.args.branches.now c.loop-branch.branch-index c.branch-item.result (omega arith) c.branch-item.is (sym c.in-None.is ∙ c.in_ok-next.ensures.value ∙ ap g (sym c.steps.ensures.tree))

pub returns-clause-value : goal.returns-clause-value
returns-clause-value c =
    shapes-end pipe_of (steps_shape c.args.m.now (readings c.args.c.now) c.args.shape.now) c.args.branches.now c.loop-branch.branch-index c.loop-branch.shapes.items (omega arith) c.loop-branch.invariant.1
