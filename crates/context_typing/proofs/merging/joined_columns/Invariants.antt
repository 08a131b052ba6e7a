use Rattle.std.proofs.Common.{◌≡◌, Some, map, take}
use Rattle.edm_values.specs.Lists.{all_some}
use Rattle.context_typing.specs.Merging.{joined_column}
use Rattle.context_typing.proofs.merging.joined_columns.Given as goal

abbrev pub invariant-loop-i : goal.invariant-loop-i
invariant-loop-i l = all_some (map (joined_column l.m l.shapes) (take l.i l.table)) ≡ Some l.columns
