use Rattle.row_frames.specs.Gathered.{IsGathered}
use Rattle.row_frames.proofs.GatherLemmas.{zip-more}
use Rattle.row_frames.proofs.computed.gathered_tables.Goals as goal

pub loop-table-preserved : goal.loop-table-preserved
loop-table-preserved c =
    zip-more (IsGathered c.args.rows.now) c.args.tables.now c.loop-table.made.items c.push.new.self.items c.loop-table.table-index c.table-item.result c.in_ok-gathered.field-0
    c.loop-table.invariant c.loop-table-test.true c.table-item.is c.in_ok-gathered.ensures c.in_ok-push.ensures.items
