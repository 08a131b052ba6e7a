use Rattle.std.proofs.Common.{◌<◌, length, subst, sym}
use Rattle.std.proofs.lemmas.Result.{on_ok_weaker}
use Rattle.rollup_rec.specs.RowTables.{IsRowTableOf, RowTableState}
use Rattle.rollup_rec.proofs.RowTableLaws.{IsRowTableOf-next}
use Rattle.rollup_rec.proofs.row_tables.RowTablePartial.add.Goals as goal

pub returns-clause-added : goal.returns-clause-added
returns-clause-added c =
    let P : RowTableState → Type 0 = λ t. c.args.item.now < length t.keys in
    let there : c.args.item.now < length c.self.inside.keys.now = subst P (sym c.self.view_is) c.requires.kind.0 in
    on_ok_weaker c.add.result (λ added xs h.
    IsRowTableOf-next _ _ _ c.args.item.now c.args._place xs there c.index-keys-row.is added
    (subst (λ t. IsRowTableOf t xs) (sym c.self.view_is) h)) c.add.ensures.added
