use Rattle.std.proofs.Common.{◌≡◌, map, take}
use Rattle.std.specs.List.{All}
use Rattle.apply_ast.specs.Trees as tree
use Rattle.row_frames.specs.Frames.{IsReaderOf}
use Rattle.row_frames.proofs.readers.path_readers_of.Given as goal

abbrev pub invariant-loop-table : goal.invariant-loop-table
invariant-loop-table l = (map (λ r. r.table.now) l.readers.items ≡ take l.table-index l.tables) × All (IsReaderOf l.store (tree.Expr.Path' l.path)) l.readers.items
