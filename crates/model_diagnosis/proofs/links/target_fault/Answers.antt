-- A navigation that has another member or leads to no type is among those of the type.
use Rattle.std.proofs.Common.{◌≡◌, ℕ, Bool, true, not, refl, subst}
use Rattle.std.specs.Prelude.{Option, None, Some, is_none, is_some}
use Rattle.edm_schema.specs.ModelTrees.{type_place, navigation_members}
use Rattle.edm_schema.specs.MemberLists.{member_seen, root_of, tree_of}
use Rattle.model_diagnosis.proofs.Found.{among_seen, some_seen}
use Rattle.model_diagnosis.proofs.links.target_fault.Goals as goal

is_nothing : (o : Option ℕ) (b : Bool) → is_some o ≡ not b → b ≡ true → is_none o ≡ true
is_nothing None b e h = refl
is_nothing (Some k) b e h = absurd cc

pub other_fault-requires-clause-among : goal.other_fault-requires-clause-among
other_fault-requires-clause-among c =
    let items = c.deref-member-items.ensures.value in
    among_seen member_seen c.args.t.now.navigations.items _ c.loop-member.member-index c.member-item.result c.requires.t.navigations (rw items at c.loop-member-test.true) (rw items at c.member-item.is)

pub returns-in-Some : goal.returns-in-Some
returns-in-Some c = c.in-Some.ensures.found (root_of c.args.schema.now)

pub returns-then-is_none : goal.returns-then-is_none
returns-then-is_none c = λ k.
    let items = c.deref-member-items.ensures.value in
    some_seen member_seen (λ n. is_none (type_place (root_of c.args.schema.now) n)) c.args.t.now.navigations.items (navigation_members (tree_of c.args.t.now)) c.loop-member.member-index c.member-item.result c.requires.t.navigations (rw items at c.loop-member-test.true) (rw items at c.member-item.is)
    (subst (λ (o : Option ℕ). is_none o ≡ true) c.type_place.ensures.value (is_nothing c.type_place.result c.is_none.result c.is_none.ensures c.if-is_none.true))
