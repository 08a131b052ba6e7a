-- A member of a type whose name is no simple identifier.
use Rattle.std.proofs.Common.{◌≡◌, true, false, not, sym, ◌∙◌, ap, arith, length}
use Rattle.edm_schema.specs.JsonTrees.{members_in}
use Rattle.edm_schema.specs.MemberLists.{member_seen, tree_of}
use Rattle.model_diagnosis.specs.Faults.{has_simple_name}
use Rattle.model_diagnosis.proofs.Found.{some_seen}
use Rattle.model_diagnosis.proofs.Unbroken.{all_searched, one_more}
use Rattle.edm_schema.specs.declared.members.Member.{Member}
use Rattle.model_diagnosis.proofs.names.part_name_fault.Goals as goal

pub returns-then-not-has_simple_name-clause-found : goal.returns-then-not-has_simple_name-clause-found
returns-then-not-has_simple_name-clause-found c =
    let items = c.deref-member-items.ensures.value in
    let fails : c.has_simple_name.result ≡ false = c.if-not-has_simple_name.true in
    λ d k. some_seen member_seen _ c.args.t.now.members.items _ c.loop-member.member-index c.member-item.result c.requires.members (rw items at c.loop-member-test.true) (rw items at c.member-item.is) (ap not (sym c.has_simple_name.ensures.value ∙ fails))

pub loop-member-preserved : goal.loop-member-preserved
loop-member-preserved c =
    let items = c.deref-member-items.ensures.value in
    let holds : c.has_simple_name.result ≡ true = c.if-not-has_simple_name.false in
    one_more (λ (m : Member). has_simple_name (member_seen m).0) c.args.t.now.members.items c.loop-member.member-index c.member-item.result (rw items at c.loop-member-test.true) (rw items at c.member-item.is) c.loop-member.invariant (sym c.has_simple_name.ensures.value ∙ holds)

pub returns-clause-none : goal.returns-clause-none
returns-clause-none c =
    all_searched member_seen (λ m. has_simple_name m.0) c.args.t.now.members.items (members_in (tree_of c.args.t.now)) c.loop-member.member-index c.requires.members (omega (arith, c.deref-member-items.ensures.len, ap length c.deref-member-items.ensures.value)) c.loop-member.invariant
