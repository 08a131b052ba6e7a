use Rattle.std.proofs.Common.{subst, sym}
use Rattle.std.proofs.lemmas.Result.{on_ok_weaker}
use Rattle.aggregate_ops.specs.KeyTables.{ArePlacesOf}
use Rattle.aggregate_ops.proofs.MergeLemmas.{ArePlacesOf-append}
use Rattle.aggregate_ops.proofs.key_places.KeyPlacesPartial.merge.Goals as goal

pub returns-clause-merged : goal.returns-clause-merged
returns-clause-merged c = on_ok_weaker c.put_all.result (λ merged xs ys h k.
    ArePlacesOf-append _ _ _ xs ys merged (subst (λ t. ArePlacesOf t xs) (sym c.self.view_is) h) (subst (λ t. ArePlacesOf t ys) (sym c.later.view_is) k)) c.put_all.ensures
