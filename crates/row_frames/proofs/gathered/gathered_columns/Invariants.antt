use Rattle.std.proofs.Common.{take}
use Rattle.std.specs.List.{AllZip}
use Rattle.row_frames.specs.Gathered.{IsColumnOf}
use Rattle.row_frames.proofs.gathered.gathered_columns.Given as goal

abbrev pub invariant-loop-column : goal.invariant-loop-column
invariant-loop-column l = AllZip (IsColumnOf l.rows) (take l.column-index l.columns) l.made.items
