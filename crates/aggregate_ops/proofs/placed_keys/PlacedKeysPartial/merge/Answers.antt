use Rattle.std.proofs.Common.{◌∙◌, ap, subst, sym}
use Rattle.std.proofs.lemmas.Result.{on_ok_weaker}
use Rattle.aggregate_ops.specs.PlacedKeys.{ArePlacedOf}
use Rattle.aggregate_ops.proofs.PlacedKeyLaws.{ArePlacedOf-append}
use Rattle.aggregate_ops.proofs.placed_keys.PlacedKeysPartial.merge.Goals as goal

pub returns-clause-merged : goal.returns-clause-merged
returns-clause-merged c = on_ok_weaker c.merge.result (λ merged xs ys h k.
    ArePlacedOf-append _ _ _ xs ys (ap (λ s. s.columns) c.later.view_is ∙ ap (λ kind. kind.columns) c.requires.kind ∙ sym (ap (λ s. s.columns) c.self.view_is)) merged
    (subst (λ t. ArePlacedOf t xs) (sym c.self.view_is) h) (subst (λ t. ArePlacedOf t ys) (sym c.later.view_is) k)) c.merge.ensures.merged
