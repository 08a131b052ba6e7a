use Rattle.std.proofs.Common.{take}
use Rattle.std.specs.List.{AllZip}
use Rattle.row_frames.specs.Gathered.{IsGathered}
use Rattle.row_frames.proofs.computed.gathered_tables.Given as goal

abbrev pub invariant-loop-table : goal.invariant-loop-table
invariant-loop-table l = AllZip (IsGathered l.rows) (take l.table-index l.tables) l.made.items
