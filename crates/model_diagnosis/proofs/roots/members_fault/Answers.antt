-- A member of the schema that is neither an entity type nor a container.
use Rattle.std.proofs.Common.{◌≡◌, false, not, ap, arith, length, rules}
use Rattle.std.specs.Prelude.{◌&&◌}
use Rattle.std.proofs.lemmas.Bool.{and_from}
use Rattle.edm_values.specs.Lists.{same_text}
use Rattle.edm_values.proofs.SameTexts.{text-self}
use Rattle.edm_schema.specs.JsonTrees.{members_in}
use Rattle.edm_schema.specs.ModelTrees.{schema}
use Rattle.edm_schema.specs.MemberLists.{member_seen, root_of}
use Rattle.model_diagnosis.specs.Faults.{is_schema_member}
use Rattle.model_diagnosis.proofs.Found.{any_seen}
use Rattle.model_diagnosis.proofs.Unbroken.{all_searched}
use Rattle.model_diagnosis.proofs.roots.members_fault.Goals as goal

pub returns-then-not-is_schema_member-clause-found : goal.returns-then-not-is_schema_member-clause-found
returns-then-not-is_schema_member-clause-found c =
    let items = c.deref-member-items.ensures.value in
    let fails : is_schema_member (member_seen c.member-item.result) ≡ false = search rules in
    any_seen member_seen (λ m. same_text m.0 c.member-item.result.name.now && not (is_schema_member m)) c.args.schema.now.members.items (members_in (schema (root_of c.args.schema.now))) c.loop-member.member-index c.member-item.result c.requires.members (rw items at c.loop-member-test.true) (rw items at c.member-item.is)
    (and_from _ _ (text-self c.member-item.result.name.now) (ap not fails))

pub returns-clause-none : goal.returns-clause-none
returns-clause-none c =
    all_searched member_seen (λ m. is_schema_member m) c.args.schema.now.members.items (members_in (schema (root_of c.args.schema.now))) c.loop-member.member-index c.requires.members (omega (arith, c.deref-member-items.ensures.len, ap length c.deref-member-items.ensures.value)) c.loop-member.invariant
