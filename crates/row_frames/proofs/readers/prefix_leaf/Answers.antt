use Rattle.std.proofs.Common.{arith}
use Rattle.std.specs.Prelude.{slice_get}
use Rattle.row_frames.proofs.TableLemmas.{prefix-own}
use Rattle.row_frames.proofs.readers.prefix_leaf.Goals as goal

pub returns-then-len-eq0 : goal.returns-then-len-eq0
returns-then-len-eq0 c = λ t k h.
    prefix-own c.args.store.now c.args.set c.args.behind.property.at c.values.result c.args.behind.hops.items (slice_get t.prefixes.items c.args.c) k c.values.ensures.value (omega arith) h
