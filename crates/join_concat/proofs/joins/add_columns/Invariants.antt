use Rattle.std.proofs.Common.{◌≡◌, ◌++◌, map, take}
use Rattle.apply_meaning.specs.Meaning.{beneath}
use Rattle.join_concat.proofs.joins.add_columns.Given as goal

abbrev pub invariant-loop-column : goal.invariant-loop-column
invariant-loop-column l = l.all.items ≡ l.fn.all.items ++ map (beneath l.alias) (take l.column-index l.columns)
