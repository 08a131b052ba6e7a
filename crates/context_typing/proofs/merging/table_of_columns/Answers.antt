use Rattle.std.proofs.Common.{◌∙◌, ap, sym, arith}
use Rattle.context_typing.proofs.MergeFacts.{branch-refused}
use Rattle.context_typing.proofs.merging.table_of_columns.Goals as goal

pub returns-in-None : goal.returns-in-None
returns-in-None c =
    branch-refused c.args.shapes.now c.loop-shape.table c.as_slice.result.now c.loop-shape.shape-index c.shape-item.result (omega arith) c.shape-item.is c.loop-shape.invariant
    (c.as_slice.ensures.value ∙ ap (λ S. S.columns) c.shape.view_is) (sym c.in-None.is ∙ c.in_ok-next.ensures)
