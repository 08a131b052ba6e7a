use Rattle.std.proofs.Common.{arith}
use Rattle.apply_ast.specs.Trees as tree
use Rattle.row_frames.specs.Frames.{IsReaderOf}
use Rattle.row_frames.proofs.FrameLemmas.{more-readers}
use Rattle.row_frames.proofs.readers.path_readers_of.Goals as goal

pub loop-table-preserved : goal.loop-table-preserved
loop-table-preserved c =
    more-readers _ (IsReaderOf c.args.store.now (tree.Expr.Path' c.args.path.now)) c.args.tables.now c.loop-table.readers.items c.push.new.self.items c.loop-table.table-index c.table-item.result c.in_ok-path_reader.field-0
    c.loop-table.invariant (omega arith) c.table-item.is c.in_ok-path_reader.ensures.table c.in_ok-path_reader.ensures.bound c.in_ok-push.ensures.items
