-- An entity type with a fault in what it has of its own.
use Rattle.std.proofs.Common.{sym, subst, ap, arith, length}
use Rattle.edm_schema.specs.MemberLists.{type_seen, root_of, IsTypeTree}
use Rattle.edm_schema.specs.ModelTrees.{type_members}
use Rattle.model_diagnosis.specs.Searched.{has_sound_parts}
use Rattle.model_diagnosis.proofs.Found.{type_fault}
use Rattle.model_diagnosis.proofs.Unbroken.{all_searched}
use Rattle.model_diagnosis.proofs.search.parts_fault.Goals as goal

pub part_fault-requires : goal.part_fault-requires
part_fault-requires c =
    let items = c.deref-t-items.ensures.value in
    subst IsTypeTree (sym (rw items at c.t-item.is)) (c.requires.each c.loop-t.t-index c.t-item.result (rw items at c.loop-t-test.true))

pub returns-in-Some-clause-found : goal.returns-in-Some-clause-found
returns-in-Some-clause-found c =
    let items = c.deref-t-items.ensures.value in
    let d = root_of c.args.schema.now in
    type_fault c.args.schema.now c.requires c.loop-t.t-index c.t-item.result c.in-Some.fault (rw items at c.t-item.is) (rw items at c.loop-t-test.true) (c.in-Some.ensures.found d c.loop-t.t-index)

pub returns-clause-none : goal.returns-clause-none
returns-clause-none c =
    all_searched type_seen (λ m. has_sound_parts m.1) c.args.schema.now.types.items (type_members (root_of c.args.schema.now)) c.loop-t.t-index c.requires.types (omega (arith, c.deref-t-items.ensures.len, ap length c.deref-t-items.ensures.value)) c.loop-t.invariant
