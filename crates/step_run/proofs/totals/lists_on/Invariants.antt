use Rattle.std.proofs.Common.{◌≡◌, length, map}
use Rattle.apply_ast.specs.Views.{agg_of}
use Rattle.step_run.specs.ItemLists.{AreItemLists}
use Rattle.step_run.proofs.totals.lists_on.Given as goal

-- the values of the items so far
abbrev pub invariant-loop-k : goal.invariant-loop-k
invariant-loop-k g l = record {
  size : length l.lists.items ≡ l.k;
  known : AreItemLists l.context.world l.rows (map agg_of l.items) l.lists.items;
}
