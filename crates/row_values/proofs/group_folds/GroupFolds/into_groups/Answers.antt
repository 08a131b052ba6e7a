use Rattle.std.proofs.Common.{◌≡◌, subst}
use Rattle.std.specs.List.{All}
use Rattle.row_values.specs.GroupFolds.{FoldsState}
use Rattle.row_values.proofs.group_folds.GroupFolds.into_groups.Goals as goal

pub returns-clause-kind : goal.returns-clause-kind
returns-clause-kind g c =
    let s = c.self.inside in
    subst (λ (t : FoldsState g.row.P.Denot). All (λ p. g.P.Partial.kind p ≡ g.P.Partial.kind t.empty) s.groups.items) c.self.view_is (λ j d h. (c.self.invariant.1 j d h).kind_is)
