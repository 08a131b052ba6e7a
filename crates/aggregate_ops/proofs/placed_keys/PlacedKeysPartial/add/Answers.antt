use Rattle.std.proofs.Common.{◌<◌, subst, sym}
use Rattle.std.proofs.lemmas.Result.{on_ok_weaker}
use Rattle.aggregate_ops.specs.PlacedKeys.{ArePlacedOf, PlacedState}
use Rattle.aggregate_ops.proofs.PlacedKeyLaws.{ArePlacedOf-next, number-at}
use Rattle.aggregate_ops.proofs.placed_keys.PlacedKeysPartial.add.Goals as goal

pub returns-clause-added : goal.returns-clause-added
returns-clause-added c = on_ok_weaker c.add.result (λ added xs h.
    ArePlacedOf-next _ _ _ c.args.item.now c.args.place xs c.numbered-key.ensures added
    (subst (λ t. ArePlacedOf t xs) (sym c.self.view_is) h)) c.add.ensures.added

pub numbered-key-requires-clause-number : goal.numbered-key-requires-clause-number
numbered-key-requires-clause-number c =
    number-at c.self.inside.columns.now c.self.inside.numbers.now c.args.item.now 0 c.self.invariant (subst (λ (s : PlacedState). c.args.item.now < s.rows) (sym c.self.view_is) c.requires.kind.there)
