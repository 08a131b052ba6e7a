use Rattle.std.proofs.Common.{arith}
use Rattle.json_render.proofs.PartLemmas.{more-parts}
use Rattle.json_render.proofs.parts.parts_of.Goals as goal

pub loop-from-preserved : goal.loop-from-preserved
loop-from-preserved c =
    let count = c.len-count.ensures in
    record {
      within = omega (arith, c.part_end-to.ensures.within, count);
      parts = more-parts c.args.rows.now c.loop-from.parts.items c.push.new.self.items c.part.result c.loop-from.from c.part_end-to.result c.part_end-to.ensures.more (omega (arith, c.part_end-to.ensures.within, count)) c.part.ensures c.in_ok-push.ensures.items c.loop-from.invariant.parts;
    }
