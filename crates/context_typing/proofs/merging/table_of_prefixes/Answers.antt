use Rattle.std.proofs.Common.{◌∙◌, ap, sym, arith}
use Rattle.std.specs.Prelude.{option_map}
use Rattle.context_typing.proofs.MergeFacts.{prefix-branch-refused}
use Rattle.context_typing.proofs.merging.table_of_prefixes.Goals as goal

pub returns-in-None : goal.returns-in-None
returns-in-None c =
    prefix-branch-refused c.args.shapes.now c.loop-shape.table.items c.as_slice.result.now c.loop-shape.shape-index c.shape-item.result (omega arith) c.shape-item.is c.loop-shape.invariant
    (c.as_slice.ensures.value ∙ ap (λ S. S.prefixes) c.shape.view_is) (ap (option_map (λ v. v.items)) (sym c.in-None.is) ∙ c.in_ok-next.ensures)
