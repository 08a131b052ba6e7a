-- A definition that fails a test or has another member.
use Rattle.std.proofs.Common.{◌≡◌, Some, sym, ap, arith, length}
use Rattle.std.specs.Prelude.{◌&&◌}
use Rattle.edm_schema.specs.ModelTrees.{is_definition, is_custom_name, definition_term}
use Rattle.edm_schema.specs.MemberLists.{member_seen, tree_of}
use Rattle.model_diagnosis.specs.Faults.{failed_definition}
use Rattle.model_diagnosis.proofs.Found.{some_seen, seen_at}
use Rattle.model_diagnosis.proofs.Unbroken.{all_of_term}
use Rattle.model_diagnosis.proofs.terms.definitions_fault.Goals as goal

pub returns-in-Some-clause-found : goal.returns-in-Some-clause-found
returns-in-Some-clause-found c =
    let items = c.deref-member-items.ensures.value in
    λ d k. some_seen member_seen _ c.args.t.now.definitions.items _ c.loop-member.member-index c.member-item.result c.requires.definitions (rw items at c.loop-member-test.true) (rw items at c.member-item.is) c.in-Some.ensures.found

pub returns-in-Some-failed_definition_test-clause-found : goal.returns-in-Some-failed_definition_test-clause-found
returns-in-Some-failed_definition_test-clause-found c =
    let items = c.deref-member-items.ensures.value in
    λ d k. seen_at member_seen (λ x. failed_definition (tree_of c.args.t.now) c.member-item.result.name.now x ≡ Some c.in-Some-failed_definition_test.test) c.args.t.now.definitions.items _ c.loop-member.member-index c.member-item.result c.requires.definitions (rw items at c.loop-member-test.true) (rw items at c.member-item.is) (sym c.in-Some-failed_definition_test.ensures.first)

pub returns-clause-none : goal.returns-clause-none
returns-clause-none c =
    all_of_term (λ m. is_definition m.1 && is_custom_name (tree_of c.args.t.now) m.0) definition_term (tree_of c.args.t.now) c.args.t.now.definitions.items c.loop-member.member-index c.requires.definitions (omega (arith, c.deref-member-items.ensures.len, ap length c.deref-member-items.ensures.value)) c.loop-member.invariant
