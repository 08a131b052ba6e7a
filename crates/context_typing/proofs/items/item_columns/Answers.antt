use Rattle.std.proofs.Common.{◌∙◌, ap, sym, arith, Some}
use Rattle.apply_ast.specs.Views.{agg_of}
use Rattle.context_typing.specs.Readings.{readings}
use Rattle.context_typing.specs.Typing.{item_column}
use Rattle.context_typing.proofs.Collected.{all_some-more, all_some-none}
use Rattle.context_typing.proofs.items.item_columns.Goals as goal

pub returns-in-None : goal.returns-in-None
returns-in-None c =
    all_some-none (item_column c.args.m.now (readings c.args.c.now) c.args.shape.now) agg_of c.args.items.now c.loop-item.item-index c.item-item.result (omega arith)
    (sym c.in-None.is ∙ c.in_ok-column.ensures ∙ ap (λ x. item_column c.args.m.now (readings c.args.c.now) c.args.shape.now (agg_of x)) c.item-item.is)

pub loop-item-preserved : goal.loop-item-preserved
loop-item-preserved c =
    all_some-more (item_column c.args.m.now (readings c.args.c.now) c.args.shape.now) agg_of c.args.items.now c.loop-item.item-index c.item-item.result c.loop-item.columns c.in-Some.column (omega arith) c.loop-item.invariant
    (sym (sym c.in-Some.is ∙ c.in_ok-column.ensures ∙ ap (λ x. item_column c.args.m.now (readings c.args.c.now) c.args.shape.now (agg_of x)) c.item-item.is)) ∙ ap Some (sym c.in_ok-columns-in-Some.ensures)
