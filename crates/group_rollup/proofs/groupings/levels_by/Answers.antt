use Rattle.std.proofs.Common.{◌+◌, ◌-◌, ◌∙◌}
use Rattle.apply_meaning.specs.Instances.{lookup}
use Rattle.aggregate_ops.proofs.ColumnKeys.{as-many, keys-right, long-enough}
use Rattle.group_rollup.specs.Groupings.{front_groups}
use Rattle.group_rollup.proofs.groupings.levels_by.Goals as goal

pub levels_from-requires-clause-long : goal.levels_from-requires-clause-long
levels_from-requires-clause-long g c κs within = long-enough (lookup c.args.store.now) c.args.paths.now c.args.list.now c.in_ok-columns.columns.items c.as_slice-seen.result.now c.len.result c.in_ok-columns.ensures.0 c.as_slice-seen.ensures.value c.len.ensures.value

pub returns : goal.returns
returns g c =
    let many = as-many (lookup c.args.store.now) c.args.paths.now c.args.list.now c.in_ok-columns.columns.items c.as_slice-seen.result.now c.len.result c.in_ok-columns.ensures.0 c.as_slice-seen.ensures.value c.len.ensures.value in
    let right = keys-right (lookup c.args.store.now) c.args.paths.now c.args.list.now c.in_ok-columns.columns.items c.as_slice-seen.result.now c.len.result c.in_ok-columns.ensures.0 c.as_slice-seen.ensures.value c.len.ensures.value in (
      c.in_ok-levels_from.ensures ∙ (λ i. front_groups c.args.least (many i + 1 - c.args.least) (right i)),
      c.in_ok-columns.ensures.1,
    )
