-- A property that fails a test or has another member.
use Rattle.std.proofs.Common.{◌≡◌, Some, sym, ap, arith, length, true}
use Rattle.edm_schema.specs.JsonTrees as tree
use Rattle.edm_schema.specs.ModelTrees.{is_own, is_property, property_members}
use Rattle.serde_json.specs.View.{view}
use Rattle.std.specs.Prelude.{◌&&◌}
use Rattle.edm_schema.specs.JsonTrees.{members_in}
use Rattle.edm_schema.specs.declared.members.Member.{Member}
use Rattle.edm_schema.specs.MemberLists.{member_seen, tree_of}
use Rattle.model_diagnosis.specs.Faults.{failed_property}
use Rattle.model_diagnosis.specs.Searched.{is_sound_property}
use Rattle.model_diagnosis.proofs.Found.{some_seen, seen_at, among_seen}
use Rattle.model_diagnosis.proofs.Unbroken.{all_searched, kept_passes, one_more, property_holds}
use Rattle.model_diagnosis.proofs.parts.properties_fault.Goals as goal
use Rattle.edm_values.proofs.EachLemmas.{and-right}

pub returns-in-Some-clause-found : goal.returns-in-Some-clause-found
returns-in-Some-clause-found c =
    let items = c.deref-member-items.ensures.value in
    λ d k. some_seen member_seen _ c.args.t.now.properties.items _ c.loop-member.member-index c.member-item.result c.requires.properties (rw items at c.loop-member-test.true) (rw items at c.member-item.is) c.in-Some.ensures.found

pub returns-in-Some-failed_property_test-clause-found : goal.returns-in-Some-failed_property_test-clause-found
returns-in-Some-failed_property_test-clause-found c =
    let items = c.deref-member-items.ensures.value in
    λ d k. seen_at member_seen (λ p. failed_property p ≡ Some c.in-Some-failed_property_test.test) c.args.t.now.properties.items _ c.loop-member.member-index c.member-item.result c.requires.properties (rw items at c.loop-member-test.true) (rw items at c.member-item.is) (sym c.in-Some-failed_property_test.ensures.first)

pub loop-member-preserved : goal.loop-member-preserved
loop-member-preserved c =
    let items = c.deref-member-items.ensures.value in
    let t = c.args.t.now in
    let m = c.member-item.result in
    let within = rw items at c.loop-member-test.true in
    let is = rw items at c.member-item.is in
    let kept = kept_passes (λ (n : tree.Member). is_own n.0 && is_property n.1) (members_in (tree_of t)) (member_seen m) (among_seen member_seen t.properties.items (property_members (tree_of t)) c.loop-member.member-index m c.requires.properties within is) in
    let property : is_property (view m.value.now) ≡ true = and-right _ _ kept in
    one_more (λ (n : Member). is_sound_property (member_seen n).1) t.properties.items c.loop-member.member-index m within is c.loop-member.invariant
    (property_holds (view m.value.now) property c.in_default.ensures.none c.in_default-failed_property_test.ensures.none)

pub returns-clause-none : goal.returns-clause-none
returns-clause-none c =
    all_searched member_seen (λ m. is_sound_property m.1) c.args.t.now.properties.items (property_members (tree_of c.args.t.now)) c.loop-member.member-index c.requires.properties (omega (arith, c.deref-member-items.ensures.len, ap length c.deref-member-items.ensures.value)) c.loop-member.invariant
