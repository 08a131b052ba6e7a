use Rattle.std.proofs.Common.{◌≡◌, length, map}
use Rattle.apply_ast.specs.Views.{agg_of}
use Rattle.step_run.specs.KeyedTotals.{AreRowsOfKeys}
use Rattle.step_run.proofs.keyed_totals.rows_of_keys.Given as goal

-- what is kept of the lists so far
abbrev pub invariant-loop-k : goal.invariant-loop-k
invariant-loop-k g l = record {
  size : length l.all.items ≡ l.k;
  each : AreRowsOfKeys l.context.world (map agg_of l.items) l.rows l.index (map (λ v. v.items) l.nodes) (map (λ v. v.items) l.members) l.all.items;
}
