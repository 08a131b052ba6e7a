-- A hierarchy that fails a test or has another member.
use Rattle.std.proofs.Common.{◌≡◌, Some, sym, ap, arith, length}
use Rattle.edm_schema.specs.ModelTrees.{is_hierarchy, hierarchy_term}
use Rattle.edm_schema.specs.MemberLists.{member_seen, root_of, tree_of}
use Rattle.model_diagnosis.specs.Faults.{failed_hierarchy}
use Rattle.model_diagnosis.proofs.Found.{some_seen, seen_at}
use Rattle.model_diagnosis.proofs.Unbroken.{all_of_term}
use Rattle.model_diagnosis.proofs.terms.hierarchies_fault.Goals as goal

pub returns-in-Some-clause-found : goal.returns-in-Some-clause-found
returns-in-Some-clause-found c =
    let items = c.deref-member-items.ensures.value in
    some_seen member_seen _ c.args.t.now.hierarchies.items _ c.loop-member.member-index c.member-item.result c.requires.t.hierarchies (rw items at c.loop-member-test.true) (rw items at c.member-item.is) c.in-Some.ensures.found

pub returns-in-Some-failed_hierarchy_test-clause-found : goal.returns-in-Some-failed_hierarchy_test-clause-found
returns-in-Some-failed_hierarchy_test-clause-found c =
    let items = c.deref-member-items.ensures.value in
    seen_at member_seen (λ h. failed_hierarchy (root_of c.args.schema.now) c.args.k (tree_of c.args.t.now) h ≡ Some c.in-Some-failed_hierarchy_test.test) c.args.t.now.hierarchies.items _ c.loop-member.member-index c.member-item.result c.requires.t.hierarchies (rw items at c.loop-member-test.true) (rw items at c.member-item.is) (sym c.in-Some-failed_hierarchy_test.ensures.first)

pub returns-clause-none : goal.returns-clause-none
returns-clause-none c =
    all_of_term (λ m. is_hierarchy (root_of c.args.schema.now) c.args.k (tree_of c.args.t.now) m.1) hierarchy_term (tree_of c.args.t.now) c.args.t.now.hierarchies.items c.loop-member.member-index c.requires.t.hierarchies (omega (arith, c.deref-member-items.ensures.len, ap length c.deref-member-items.ensures.value)) c.loop-member.invariant
