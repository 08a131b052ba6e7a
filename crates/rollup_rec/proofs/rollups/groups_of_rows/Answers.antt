use Rattle.std.proofs.Common.{◌≡◌, ◌∙◌, ap}
use Rattle.std.proofs.lemmas.Result.{IfOk-weaker}
use Rattle.par_stages.proofs.Places.{items-placed}
use Rattle.aggregate_ops.specs.KeyTables.{groups_of}
use Rattle.rollup_rec.specs.RowTables.{keyed_rows}
use Rattle.rollup_rec.proofs.rollups.groups_of_rows.Goals as goal

pub returns : goal.returns
returns g c =
    let keys = ap (λ k. k.1) c.in_ok-pieces.ensures.kind ∙ c.new-empty.ensures.keys in
    IfOk-weaker c.into_groups.result _ (λ found. found ≡ groups_of (keyed_rows c.args.keys.now c.args.rows.now))
    (λ found h. h _ c.in_ok-pieces.ensures.stands ∙ (λ i. groups_of (keyed_rows (keys i) (items-placed 0 c.args.rows.now i)))) c.into_groups.ensures
