use Rattle.std.proofs.Common.{take}
use Rattle.std.specs.List.{AllZip}
use Rattle.row_frames.specs.Joined.{IsShared}
use Rattle.row_frames.proofs.joined.shared_tables.Given as goal

abbrev pub invariant-loop-table : goal.invariant-loop-table
invariant-loop-table l = AllZip IsShared (take l.table-index l.tables) l.made.items
