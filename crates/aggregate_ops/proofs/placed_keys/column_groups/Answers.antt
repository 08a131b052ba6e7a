use Rattle.std.proofs.Common.{◌≡◌, ◌∙◌, ap}
use Rattle.std.proofs.lemmas.Result.{IfOk-weaker}
use Rattle.edm_values.specs.Lists.{places}
use Rattle.par_stages.specs.Placed.{placed}
use Rattle.aggregate_ops.specs.Columns.{key_rows}
use Rattle.aggregate_ops.specs.KeyTables.{groups_of}
use Rattle.aggregate_ops.specs.PlacedKeys.{placed_rows}
use Rattle.aggregate_ops.proofs.PlacedKeyLaws.{groups-of_columns, many-numbers, numbers-at_rows, numbers-of_columns, places-in, places-there}
use Rattle.aggregate_ops.proofs.placed_keys.column_groups.Goals as goal

pub column_numbers-requires-clause-there : goal.column_numbers-requires-clause-there
column_numbers-requires-clause-there g c κs within = places-in c.args.columns.now c.args.count c.as_slice-rows.result.now (c.as_slice-rows.ensures.value ∙ c.in_ok-rows.ensures) c.requires.long

pub new-empty-requires : goal.new-empty-requires
new-empty-requires g c =
    let rows : c.as_slice-rows.result.now ≡ places c.args.count = c.as_slice-rows.ensures.value ∙ c.in_ok-rows.ensures in
    numbers-of_columns c.args.columns.now c.args.count c.as_slice.result.now
    (numbers-at_rows c.args.columns.now c.args.count c.as_slice-rows.result.now _ rows (c.as_slice.ensures.value ∙ c.in_ok-numbers.ensures)) c.requires.long

pub pieces-requires-clause-kind : goal.pieces-requires-clause-kind
pieces-requires-clause-kind g c κs within =
    let rows : c.as_slice-rows.result.now ≡ places c.args.count = c.as_slice-rows.ensures.value ∙ c.in_ok-rows.ensures in
    places-there _ c.args.columns.now c.args.count _ c.as_slice-rows.result.now c.new-empty.ensures.columns c.new-empty.ensures.rows
    (many-numbers c.args.columns.now c.args.count _ (numbers-at_rows c.args.columns.now c.args.count c.as_slice-rows.result.now _ rows (c.as_slice.ensures.value ∙ c.in_ok-numbers.ensures))) c.new-empty.ensures.width rows

pub returns : goal.returns
returns g c =
    let columns = ap (λ kind. kind.columns) c.in_ok-pieces.ensures.kind ∙ c.new-empty.ensures.columns in
    record {
      value = IfOk-weaker c.into_groups.result _ (λ found. found ≡ groups_of (placed 0 (key_rows c.args.columns.now c.args.count)))
          (λ found h. h _ c.in_ok-pieces.ensures.stands ∙ ap (λ cs. groups_of (placed_rows cs (placed 0 c.as_slice-rows.result.now))) columns
          ∙ groups-of_columns c.args.columns.now c.args.count c.as_slice-rows.result.now (c.as_slice-rows.ensures.value ∙ c.in_ok-rows.ensures)) c.into_groups.ensures;
    }
