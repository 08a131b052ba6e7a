use Rattle.row_frames.specs.Joined.{IsShared}
use Rattle.row_frames.proofs.GatherLemmas.{zip-more}
use Rattle.row_frames.proofs.joined.shared_tables.Goals as goal

pub loop-table-preserved : goal.loop-table-preserved
loop-table-preserved c =
    zip-more IsShared c.args.tables.now c.loop-table.made.items c.push.new.self.items c.loop-table.table-index c.table-item.result c.in_ok-shared_table.field-0
    c.loop-table.invariant c.loop-table-test.true c.table-item.is c.in_ok-shared_table.ensures c.in_ok-push.ensures.items
