use Rattle.row_frames.specs.Gathered.{IsColumnOf}
use Rattle.row_frames.proofs.GatherLemmas.{zip-more}
use Rattle.row_frames.proofs.gathered.gathered_columns.Goals as goal

pub loop-column-preserved : goal.loop-column-preserved
loop-column-preserved c =
    zip-more (IsColumnOf c.args.rows.now) c.args.columns.now c.loop-column.made.items c.push.new.self.items c.loop-column.column-index c.column-item.result c.in_ok-gathered_column.field-0
    c.loop-column.invariant c.loop-column-test.true c.column-item.is c.in_ok-gathered_column.ensures c.in_ok-push.ensures.items
