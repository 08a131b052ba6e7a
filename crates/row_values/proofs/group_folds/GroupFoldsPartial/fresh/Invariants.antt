use Rattle.std.proofs.Common.{◌≡◌, [], length}
use Rattle.std.specs.List.{All}
use Rattle.row_values.proofs.group_folds.GroupFoldsPartial.fresh.Given as goal

-- the partials so far are of the kind, and without values
abbrev pub invariant-loop-k : goal.invariant-loop-k
invariant-loop-k g l = record {
  size : length l.groups.items ≡ l._k;
  kind : All (λ p. g.P.Partial.kind p ≡ g.P.Partial.kind l.self-inside.empty) l.groups.items;
  stands : All (λ p. g.P.Partial.stands_for p []) l.groups.items;
}
