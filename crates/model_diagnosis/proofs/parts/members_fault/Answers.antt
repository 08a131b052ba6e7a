-- A member that is neither a property nor a navigation.
use Rattle.std.proofs.Common.{◌≡◌, false, not, sym, ◌∙◌, ap, arith, length}
use Rattle.std.specs.Prelude.{◌||◌}
use Rattle.serde_json.specs.View.{view}
use Rattle.edm_schema.specs.ModelTrees.{is_own, is_property, is_navigation, own_members}
use Rattle.edm_schema.specs.MemberLists.{member_seen, tree_of}
use Rattle.model_diagnosis.proofs.Found.{some_seen}
use Rattle.model_diagnosis.proofs.Tests.{neither_holds}
use Rattle.model_diagnosis.proofs.Unbroken.{all_searched, all_known, one_more}
use Rattle.edm_schema.specs.declared.members.Member.{Member}
use Rattle.model_diagnosis.proofs.parts.members_fault.Goals as goal

pub returns-then-not-is_type_member-clause-found : goal.returns-then-not-is_type_member-clause-found
returns-then-not-is_type_member-clause-found c =
    let items = c.deref-member-items.ensures.value in
    let m = c.member-item.result in
    let fails : (not (is_own m.name.now) || is_property (view m.value.now) || is_navigation (view m.value.now)) ≡ false = sym c.is_type_member.ensures.value ∙ c.if-not-is_type_member.true in
    λ d k. some_seen member_seen _ c.args.t.now.own.items _ c.loop-member.member-index m c.requires.own (rw items at c.loop-member-test.true) (rw items at c.member-item.is) (neither_holds _ (is_property (view m.value.now)) (is_navigation (view m.value.now)) fails)

pub loop-member-preserved : goal.loop-member-preserved
loop-member-preserved c =
    let items = c.deref-member-items.ensures.value in
    let m = c.member-item.result in
    one_more (λ (n : Member). not (is_own (member_seen n).0) || is_property (member_seen n).1 || is_navigation (member_seen n).1) c.args.t.now.own.items c.loop-member.member-index m (rw items at c.loop-member-test.true) (rw items at c.member-item.is) c.loop-member.invariant (sym c.is_type_member.ensures.value ∙ c.if-not-is_type_member.false)

pub returns-clause-none : goal.returns-clause-none
returns-clause-none c =
    all_known (tree_of c.args.t.now) (all_searched member_seen (λ m. not (is_own m.0) || is_property m.1 || is_navigation m.1) c.args.t.now.own.items (own_members (tree_of c.args.t.now)) c.loop-member.member-index c.requires.own (omega (arith, c.deref-member-items.ensures.len, ap length c.deref-member-items.ensures.value)) c.loop-member.invariant)
