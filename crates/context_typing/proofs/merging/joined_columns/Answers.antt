use Rattle.std.proofs.Common.{◌∙◌, ap, sym, arith, Some}
use Rattle.context_typing.specs.Merging.{joined_column}
use Rattle.context_typing.proofs.Collected.{all_some-next, all_some-missing}
use Rattle.context_typing.proofs.merging.joined_columns.Goals as goal

pub returns-in-None : goal.returns-in-None
returns-in-None c =
    all_some-missing (joined_column c.args.m.now c.args.shapes.now) c.args.table.now c.loop-i.i c.index-table-i.result (omega arith)
    (sym c.in-None.is ∙ c.in_ok-column.ensures ∙ ap (joined_column c.args.m.now c.args.shapes.now) c.index-table-i.is)

pub loop-i-preserved : goal.loop-i-preserved
loop-i-preserved c =
    all_some-next (joined_column c.args.m.now c.args.shapes.now) c.args.table.now c.loop-i.i c.index-table-i.result c.loop-i.columns c.in-Some.column (omega arith) c.loop-i.invariant
    (sym (sym c.in-Some.is ∙ c.in_ok-column.ensures ∙ ap (joined_column c.args.m.now c.args.shapes.now) c.index-table-i.is)) ∙ ap Some (sym c.in_ok-columns-in-Some.ensures)
