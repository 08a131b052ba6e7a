use Rattle.std.proofs.Common.{◌≡◌, drop}
use Rattle.std.specs.Prelude.{flat_map}
use Rattle.std.specs.List.{list_any}
use Rattle.edm_values.specs.Values.{is_beyond}
use Rattle.aggregate_ops.specs.Columns.{column_values}
use Rattle.group_rollup.proofs.row_keys.columns_have_beyond.Given as goal

-- what is past its range is left
abbrev pub invariant-loop-column : goal.invariant-loop-column
invariant-loop-column l = list_any is_beyond (flat_map column_values l.columns) ≡ list_any is_beyond (flat_map column_values (drop l.column-index l.columns))
