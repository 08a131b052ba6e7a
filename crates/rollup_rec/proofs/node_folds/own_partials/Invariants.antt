use Rattle.std.proofs.Common.{length, map}
use Rattle.edm_values.specs.Values.{seen_value}
use Rattle.rollup_rec.specs.NodeFolds.{AreFolds}
use Rattle.rollup_rec.proofs.node_folds.own_partials.Given as goal

-- the values at the rows so far are added at their numbers
abbrev pub invariant-loop-row : goal.invariant-loop-row
invariant-loop-row g l = AreFolds g.P.Partial.kind g.P.Partial.stands_for (g.P.Partial.kind l.empty) l.numbers l.nodes (map (λ v. seen_value v) l.values) (length l.numbers) l.row l.all.items
