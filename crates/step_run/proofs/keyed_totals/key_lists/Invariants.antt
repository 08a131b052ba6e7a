use Rattle.std.proofs.Common.{◌≡◌, length, map}
use Rattle.edm_values.specs.Lists.{at_places}
use Rattle.apply_ast.specs.Views.{agg_of}
use Rattle.step_run.specs.Totals.{AreNodeLists}
use Rattle.step_run.proofs.keyed_totals.key_lists.Given as goal

-- the values of the items so far
abbrev pub invariant-loop-k : goal.invariant-loop-k
invariant-loop-k g l = record {
  size : length l.lists.items ≡ l.k;
  known : AreNodeLists l.context.world (at_places l.rows l.places) l.index l.nodes (map agg_of l.items) l.lists.items;
}
