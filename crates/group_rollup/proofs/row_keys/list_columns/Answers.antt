use Rattle.std.proofs.Common.{◌∙◌, ap, sym}
use Rattle.std.specs.Prelude.{flat_map}
use Rattle.std.specs.List.{list_any}
use Rattle.edm_values.specs.Values.{is_beyond}
use Rattle.aggregate_ops.specs.Columns.{column_values}
use Rattle.group_rollup.proofs.ColumnLemmas.{beyond-across}
use Rattle.group_rollup.proofs.row_keys.list_columns.Goals as goal

pub returns-then-columns_have_beyond : goal.returns-then-columns_have_beyond
returns-then-columns_have_beyond g c =
    sym (beyond-across c.args.store.now.now c.args.paths.now.now c.args.list.now.now c.in_ok-columns.columns.items c.in_ok-columns.ensures.value)
    ∙ ap (λ cs. list_any is_beyond (flat_map column_values cs)) (sym c.as_slice.ensures.value) ∙ sym c.columns_have_beyond.ensures ∙ c.if-columns_have_beyond.true

pub returns : goal.returns
returns g c = (
  c.in_ok-columns.ensures.value,
  sym (beyond-across c.args.store.now.now c.args.paths.now.now c.args.list.now.now c.in_ok-columns.columns.items c.in_ok-columns.ensures.value)
      ∙ ap (λ cs. list_any is_beyond (flat_map column_values cs)) (sym c.as_slice.ensures.value) ∙ sym c.columns_have_beyond.ensures ∙ c.if-columns_have_beyond.false,
)
