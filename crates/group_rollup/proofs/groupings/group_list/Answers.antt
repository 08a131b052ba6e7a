use Rattle.std.proofs.Common.{◌∙◌, ap}
use Rattle.apply_meaning.specs.Instances.{lookup}
use Rattle.aggregate_ops.proofs.ColumnKeys.{keys-right, long-enough}
use Rattle.group_rollup.specs.Groupings.{key_groups}
use Rattle.group_rollup.proofs.GroupLemmas.{groups-of_rows}
use Rattle.group_rollup.proofs.groupings.group_list.Goals as goal

pub column_groups-requires-clause-long : goal.column_groups-requires-clause-long
column_groups-requires-clause-long g c κs within = long-enough (lookup c.args.store.now) c.args.keys.now c.args.list.now c.in_ok-columns.columns.items c.as_slice-seen.result.now c.len.result c.in_ok-columns.ensures.0 c.as_slice-seen.ensures.value c.len.ensures.value

pub returns : goal.returns
returns g c =
    record {
      value = (
        c.in_ok-column_groups.ensures.value
            ∙ ap key_groups (keys-right (lookup c.args.store.now) c.args.keys.now c.args.list.now c.in_ok-columns.columns.items c.as_slice-seen.result.now c.len.result c.in_ok-columns.ensures.0 c.as_slice-seen.ensures.value c.len.ensures.value)
            ∙ groups-of_rows c.args.store.now c.args.keys.now c.args.list.now,
        c.in_ok-columns.ensures.1,
      );
    }
