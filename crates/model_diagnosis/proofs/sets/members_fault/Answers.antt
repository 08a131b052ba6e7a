-- An entity set that fails a test or has another member.
use Rattle.std.proofs.Common.{◌≡◌, Some, sym, ap, arith, length}
use Rattle.edm_schema.specs.ModelTrees.{is_entity_set, set_members}
use Rattle.edm_schema.specs.MemberLists.{member_seen, root_of}
use Rattle.model_diagnosis.specs.Faults.{failed_set}
use Rattle.model_diagnosis.proofs.Found.{some_seen, seen_at}
use Rattle.model_diagnosis.proofs.Unbroken.{all_searched}
use Rattle.model_diagnosis.proofs.sets.members_fault.Goals as goal

pub returns-in-Some-clause-found : goal.returns-in-Some-clause-found
returns-in-Some-clause-found c =
    let items = c.deref-member-items.ensures.value in
    some_seen member_seen _ c.args.schema.now.sets.items _ c.loop-member.member-index c.member-item.result c.requires.sets (rw items at c.loop-member-test.true) (rw items at c.member-item.is) c.in-Some.ensures.found

pub returns-in-Some-failed_set_test-clause-found : goal.returns-in-Some-failed_set_test-clause-found
returns-in-Some-failed_set_test-clause-found c =
    let items = c.deref-member-items.ensures.value in
    seen_at member_seen (λ s. failed_set (root_of c.args.schema.now) s ≡ Some c.in-Some-failed_set_test.test) c.args.schema.now.sets.items _ c.loop-member.member-index c.member-item.result c.requires.sets (rw items at c.loop-member-test.true) (rw items at c.member-item.is) (sym c.in-Some-failed_set_test.ensures.first)

pub returns-clause-none : goal.returns-clause-none
returns-clause-none c =
    all_searched member_seen (λ m. is_entity_set (root_of c.args.schema.now) m.1) c.args.schema.now.sets.items (set_members (root_of c.args.schema.now)) c.loop-member.member-index c.requires.sets (omega (arith, c.deref-member-items.ensures.len, ap length c.deref-member-items.ensures.value)) c.loop-member.invariant
