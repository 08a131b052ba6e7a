use Rattle.row_frames.specs.Gathered.{IsPartOf}
use Rattle.row_frames.proofs.GatherLemmas.{zip-more}
use Rattle.row_frames.proofs.gathered.gathered_prefixes.Goals as goal

pub loop-prefix-preserved : goal.loop-prefix-preserved
loop-prefix-preserved c =
    zip-more (IsPartOf c.args.rows.now) c.args.prefixes.now c.loop-prefix.made.items c.push.new.self.items c.loop-prefix.prefix-index c.prefix-item.result c.in_ok-gathered_prefix.field-0
    c.loop-prefix.invariant c.loop-prefix-test.true c.prefix-item.is c.in_ok-gathered_prefix.ensures c.in_ok-push.ensures.items
