-- An entity type with a navigation that leads to no type.
use Rattle.std.proofs.Common.{sym, subst}
use Rattle.edm_schema.specs.MemberLists.{IsTypeTree}
use Rattle.model_diagnosis.proofs.Found.{type_fault}
use Rattle.model_diagnosis.proofs.search.targets_fault.Goals as goal

pub target_fault-requires-clause-t : goal.target_fault-requires-clause-t
target_fault-requires-clause-t c =
    let items = c.deref-t-items.ensures.value in
    subst IsTypeTree (sym (rw items at c.t-item.is)) (c.requires.each c.loop-t.t-index c.t-item.result (rw items at c.loop-t-test.true))

pub returns-in-Some : goal.returns-in-Some
returns-in-Some c =
    let items = c.deref-t-items.ensures.value in
    type_fault c.args.schema.now c.requires c.loop-t.t-index c.t-item.result c.in-Some.fault (rw items at c.t-item.is) (rw items at c.loop-t-test.true) (c.in-Some.ensures c.loop-t.t-index)
