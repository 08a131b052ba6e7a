use Rattle.std.proofs.Common.{◌∙◌, ap, subst, sym}
use Rattle.std.proofs.lemmas.Result.{on_ok_weaker}
use Rattle.rollup_rec.specs.RowTables.{IsRowTableOf}
use Rattle.rollup_rec.proofs.RowTableLaws.{IsRowTableOf-append}
use Rattle.rollup_rec.proofs.row_tables.RowTablePartial.merge.Goals as goal

pub returns-clause-merged : goal.returns-clause-merged
returns-clause-merged c = on_ok_weaker c.merge.result (λ merged xs ys h k.
    IsRowTableOf-append _ _ _ xs ys (ap (λ s. s.keys) c.later.view_is ∙ ap (λ kind. kind.1) c.requires.kind ∙ sym (ap (λ s. s.keys) c.self.view_is)) merged
    (subst (λ t. IsRowTableOf t xs) (sym c.self.view_is) h) (subst (λ t. IsRowTableOf t ys) (sym c.later.view_is) k)) c.merge.ensures.merged
