use Rattle.std.proofs.Common.{◌<◌, arith, length, subst, sym}
use Rattle.std.specs.Global.{Vec}
use Rattle.edm_values.specs.declared.Seen.{Seen}
use Rattle.row_frames.proofs.KeyLemmas.{more-values}
use Rattle.row_frames.proofs.keys.key_at.Goals as goal

pub loop-column-preserved : goal.loop-column-preserved
loop-column-preserved c =
    let inside = subst (λ (x : Vec Seen). c.args.at < length x.items) (sym c.column-item.is) (c.requires c.loop-column.column-index c.column-item.result (omega arith)) in
    more-values c.args.columns.now c.loop-column.column-index c.args.at c.column-item.result c.index.result.now c.in_ok-own.field-0 c.loop-column.key.items c.push.new.self.items
    c.loop-column.invariant (omega arith) c.column-item.is inside c.index.ensures c.in_ok-own.ensures.value c.in_ok-push.ensures.items
