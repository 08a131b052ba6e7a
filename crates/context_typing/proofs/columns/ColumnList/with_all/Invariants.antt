use Rattle.std.proofs.Common.{◌≡◌, ◌++◌}
use Rattle.context_typing.proofs.columns.ColumnList.with_all.Given as goal

abbrev pub invariant-loop-column : goal.invariant-loop-column
invariant-loop-column l = l.columns ≡ l.fn.self ++ l.yielded
