use Rattle.json_render.specs.Places.{named_parts}
use Rattle.json_render.proofs.RowParts.{more-prefix}
use Rattle.json_render.proofs.members.push_prefixes.Goals as goal

pub loop-k-preserved : goal.loop-k-preserved
loop-k-preserved c =
    let k = c.loop-k.k in
    more-prefix c.args.row.now.prefixes k (named_parts c.args.entries.now.items) c.loop-k.entries.items c.push.new.self.items c.whole.result c.prefix_path.result.now c.prefix_path.ensures
    c.whole.ensures c.in_ok-push.ensures.items c.loop-k.invariant
