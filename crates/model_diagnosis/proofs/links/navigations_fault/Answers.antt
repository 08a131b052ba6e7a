-- A navigation with a fault.
use Rattle.std.proofs.Common.{ap, arith, length}
use Rattle.edm_schema.specs.ModelTrees.{is_navigable, navigation_members}
use Rattle.edm_schema.specs.MemberLists.{member_seen, root_of, tree_of}
use Rattle.model_diagnosis.proofs.Found.{among_seen}
use Rattle.model_diagnosis.proofs.Unbroken.{all_searched}
use Rattle.model_diagnosis.proofs.links.navigations_fault.Goals as goal

pub navigation_fault-requires-clause-among : goal.navigation_fault-requires-clause-among
navigation_fault-requires-clause-among c =
    let items = c.deref-member-items.ensures.value in
    among_seen member_seen c.args.t.now.navigations.items _ c.loop-member.member-index c.member-item.result c.requires.t.navigations (rw items at c.loop-member-test.true) (rw items at c.member-item.is)

pub returns-clause-none : goal.returns-clause-none
returns-clause-none c =
    all_searched member_seen (λ m. is_navigable (root_of c.args.schema.now) c.args.k (tree_of c.args.t.now) m.1) c.args.t.now.navigations.items (navigation_members (tree_of c.args.t.now)) c.loop-member.member-index c.requires.t.navigations (omega (arith, c.deref-member-items.ensures.len, ap length c.deref-member-items.ensures.value)) c.loop-member.invariant
