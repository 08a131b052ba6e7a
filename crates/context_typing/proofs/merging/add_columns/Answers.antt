use Rattle.std.proofs.Common.{◌∙◌, Some, ap, sym, arith}
use Rattle.context_typing.proofs.MergeFacts.{column-refused}
use Rattle.context_typing.proofs.merging.add_columns.Goals as goal

pub returns-in-Some-false : goal.returns-in-Some-false
returns-in-Some-false c =
    column-refused c.args.table c.args.columns.now c.loop-i.table c.loop-i.i c.index-columns-i.result (omega arith) c.index-columns-i.is c.loop-i.invariant
    (sym c.is_of_kind.ensures ∙ c.in-Some-false.is ∙ ap Some c.in-Some-false.field-0-test)
