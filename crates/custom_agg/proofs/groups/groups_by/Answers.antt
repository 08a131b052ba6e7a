use Rattle.std.proofs.Common.{◌≡◌, ◌∙◌, ap, map}
use Rattle.std.proofs.lemmas.Result.{IfOk-weaker}
use Rattle.apply_meaning.specs.Instances.{lookup}
use Rattle.apply_meaning.specs.Meaning.{key_list}
use Rattle.par_stages.specs.Placed.{placed}
use Rattle.aggregate_ops.specs.KeyTables.{groups_of}
use Rattle.aggregate_ops.proofs.ColumnKeys.{keys-right, long-enough}
use Rattle.custom_agg.proofs.groups.groups_by.Goals as goal

pub column_groups-requires-clause-long : goal.column_groups-requires-clause-long
column_groups-requires-clause-long g c κs within = long-enough (lookup c.args.store.now) c.args.paths.now c.args.rows.now c.in_ok-columns.columns.items c.as_slice-seen.result.now c.len.result c.in_ok-columns.ensures c.as_slice-seen.ensures.value c.len.ensures.value

pub returns : goal.returns
returns g c =
    let keys = keys-right (lookup c.args.store.now) c.args.paths.now c.args.rows.now c.in_ok-columns.columns.items c.as_slice-seen.result.now c.len.result c.in_ok-columns.ensures c.as_slice-seen.ensures.value c.len.ensures.value in
    IfOk-weaker c.column_groups.result _ (λ found. found ≡ groups_of (placed 0 (map (key_list c.args.store.now c.args.paths.now) c.args.rows.now)))
    (λ found h. h ∙ ap (λ ks. groups_of (placed 0 ks)) keys) c.column_groups.ensures.value
