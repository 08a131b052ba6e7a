use Rattle.std.proofs.Common.{◌≡◌, map, take}
use Rattle.apply_ast.specs.Views.{agg_of}
use Rattle.row_frames.specs.Columned.{given}
use Rattle.step_run.specs.GroupTotals.{listed_column}
use Rattle.step_run.proofs.group_totals.item_columns.Given as goal

-- the columns of the items so far
abbrev pub invariant-loop-item : goal.invariant-loop-item
invariant-loop-item g l = given l.columns.items ≡ map (listed_column l.context.world l.rows l.groups) (map agg_of (take l.item-index l.items))
