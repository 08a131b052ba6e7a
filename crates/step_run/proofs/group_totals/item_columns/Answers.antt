use Rattle.apply_ast.specs.Views.{agg_of}
use Rattle.step_run.specs.GroupTotals.{IsFoldable}
use Rattle.step_run.proofs.ListedColumns.{all-image}
use Rattle.step_run.proofs.group_totals.item_columns.Goals as goal

pub item_values-requires-clause-kind : goal.item_values-requires-clause-kind
item_values-requires-clause-kind g c κs within = all-image (IsFoldable c.args.context.now.world c.args.rows.now) agg_of c.args.items.now c.loop-item.item-index c.item-item.result c.requires.kind c.loop-item-test.true c.item-item.is
