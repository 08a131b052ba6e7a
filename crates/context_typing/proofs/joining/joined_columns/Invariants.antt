use Rattle.std.proofs.Common.{◌≡◌, ◌++◌, map, take}
use Rattle.context_typing.specs.Typing.{column_under}
use Rattle.context_typing.proofs.joining.joined_columns.Given as goal

abbrev pub invariant-loop-column : goal.invariant-loop-column
invariant-loop-column l = l.columns ≡ l.fn.columns ++ map (column_under l.outer l.alias) (take l.column-index l.more)
