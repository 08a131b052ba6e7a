use Rattle.std.proofs.Common.{◌∙◌, arith, sym}
use Rattle.row_frames.proofs.TableLemmas.{property-linked, property-own}
use Rattle.row_frames.proofs.readers.root_leaf.Goals as goal

pub returns-then-len-eq0 : goal.returns-then-len-eq0
returns-then-len-eq0 c = λ t k at r.
    property-own c.args.store.now c.args.set c.args.behind.property.at c.values.result c.args.behind.hops.items c.values.ensures.value (omega arith) t k at r
    ∙ sym (c.own_leaf.ensures c.args.store.now t k)

pub returns-then-len-eq1 : goal.returns-then-len-eq1
returns-then-len-eq1 c = λ t k at r.
    property-linked c.args.store.now c.args.set c.args.behind.target c.args.behind.property.at c.linked_places.result c.values-then-len-eq1.result c.index.result.now c.args.behind.hops.items
    c.linked_places.ensures.value c.values-then-len-eq1.ensures.value (omega arith) c.index.ensures c.requires t k at r
