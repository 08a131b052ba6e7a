use Rattle.std.proofs.Common.{◌≡◌, length, map}
use Rattle.std.specs.Prelude.{option_map}
use Rattle.edm_values.specs.Values.{seen_value}
use Rattle.apply_ast.specs.Views.{agg_of}
use Rattle.step_run.specs.KeyedTotals.{AreSeenLists}
use Rattle.step_run.proofs.keyed_totals.seen_lists.Given as goal

-- the values of the items so far
abbrev pub invariant-loop-item : goal.invariant-loop-item
invariant-loop-item g l = record {
  size : length l.lists.items ≡ l.item-index;
  known : AreSeenLists l.context.world l.rows (map agg_of l.items) (map (option_map (λ v. map (λ s. seen_value s) v.items)) l.lists.items);
}
