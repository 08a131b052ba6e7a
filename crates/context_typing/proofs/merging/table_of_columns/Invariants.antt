use Rattle.std.proofs.Common.{◌≡◌, Some, [], fold, take}
use Rattle.context_typing.specs.Merging.{add_columns}
use Rattle.context_typing.proofs.merging.table_of_columns.Given as goal

abbrev pub invariant-loop-shape : goal.invariant-loop-shape
invariant-loop-shape l = fold add_columns (Some []) (take l.shape-index l.shapes) ≡ Some l.table
