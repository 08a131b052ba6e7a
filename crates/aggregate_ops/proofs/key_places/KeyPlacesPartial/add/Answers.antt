use Rattle.std.proofs.Common.{subst, sym}
use Rattle.std.proofs.lemmas.Result.{on_ok_weaker}
use Rattle.aggregate_ops.specs.KeyTables.{ArePlacesOf}
use Rattle.aggregate_ops.proofs.KeyTableLemmas.{ArePlacesOf-next}
use Rattle.aggregate_ops.proofs.key_places.KeyPlacesPartial.add.Goals as goal

pub returns-clause-added : goal.returns-clause-added
returns-clause-added c = on_ok_weaker c.put_place.result (λ grown xs h.
    ArePlacesOf-next _ _ xs c.args.item.now c.args.place grown
    (subst (λ t. ArePlacesOf t xs) (sym c.self.view_is) h)) c.put_place.ensures
