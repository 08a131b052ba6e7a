use Rattle.std.proofs.Common.{◌≡◌, map}
use Rattle.edm_values.specs.Values.{seen_value}
use Rattle.edm_data.proofs.GridLemmas.{grown}
use Rattle.edm_data.proofs.table.Table.push.Given as goal

abbrev pub invariant-loop-place : goal.invariant-loop-place
invariant-loop-place l = l.columns.items ≡ grown l.place l.initial.columns.items (map seen_value l.row)
