use Rattle.std.proofs.Common.{◌≡◌, [], length}
use Rattle.std.specs.List.{All}
use Rattle.rollup_rec.proofs.node_folds.fresh_partials.Given as goal

-- the partials so far are of the kind, and without values
abbrev pub invariant-loop-k : goal.invariant-loop-k
invariant-loop-k g l = record {
  size : length l.all.items ≡ l._k;
  kind : All (λ p. g.P.Partial.kind p ≡ g.P.Partial.kind l.empty) l.all.items;
  stands : All (λ p. g.P.Partial.stands_for p []) l.all.items;
}
