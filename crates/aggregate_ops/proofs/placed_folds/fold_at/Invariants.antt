use Rattle.std.proofs.Common.{◌≡◌, take}
use Rattle.edm_values.specs.Lists.{at_places}
use Rattle.par_stages.specs.Placed.{placed}
use Rattle.aggregate_ops.proofs.placed_folds.fold_at.Given as goal

-- the partial stands for the values so far
abbrev pub invariant-loop-k : goal.invariant-loop-k
invariant-loop-k g l = record {
  kind : g.P.Partial.kind l.partial ≡ g.P.Partial.kind l.empty;
  stands : g.P.Partial.stands_for l.partial (placed 0 (take l.k (at_places l.values l.places)));
}
