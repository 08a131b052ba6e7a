use Rattle.std.proofs.Common.{◌≡◌, length, map}
use Rattle.apply_ast.specs.Views.{agg_of}
use Rattle.step_run.specs.Totals.{AreNodeLists}
use Rattle.step_run.proofs.totals.node_lists.Given as goal

-- the values of the items so far
abbrev pub invariant-loop-item : goal.invariant-loop-item
invariant-loop-item g l = record {
  size : length l.lists.items ≡ l.item-index;
  known : AreNodeLists l.context.world l.rows l.index l.nodes (map agg_of l.items) l.lists.items;
}
