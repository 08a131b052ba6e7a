use Rattle.std.proofs.Common.{◌∙◌, Some, ap, sym, arith}
use Rattle.context_typing.proofs.MergeFacts.{branches-next}
use Rattle.context_typing.proofs.merging.in_branches.Goals as goal

pub loop-shape-preserved : goal.loop-shape-preserved
loop-shape-preserved c =
    branches-next c.args.m.now c.args.shapes.now c.args.column.now c.loop-shape.shape-index c.shape-item.result c.loop-shape.joined c.in-Some.own (omega arith) c.shape-item.is c.loop-shape.invariant
    (sym c.in-Some.is ∙ c.in_branch.ensures) ∙ ap Some (sym c.both-joined.ensures)
