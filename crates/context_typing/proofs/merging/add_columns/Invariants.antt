use Rattle.std.proofs.Common.{◌≡◌, Some, fold, take}
use Rattle.context_typing.specs.Merging.{add_column}
use Rattle.context_typing.proofs.merging.add_columns.Given as goal

abbrev pub invariant-loop-i : goal.invariant-loop-i
invariant-loop-i l = fold add_column (Some l.fn.table) (take l.i l.columns) ≡ Some l.table
