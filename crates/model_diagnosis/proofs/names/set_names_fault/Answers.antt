-- An entity set whose name is no simple identifier.
use Rattle.std.proofs.Common.{not, sym, ◌∙◌, ap, arith, length}
use Rattle.edm_values.specs.Names.{is_name}
use Rattle.edm_schema.specs.ModelTrees.{set_members}
use Rattle.edm_schema.specs.MemberLists.{member_seen, root_of}
use Rattle.model_diagnosis.proofs.Found.{some_seen}
use Rattle.model_diagnosis.proofs.Unbroken.{all_searched}
use Rattle.model_diagnosis.proofs.names.set_names_fault.Goals as goal

pub returns-then-not-is_name-clause-found : goal.returns-then-not-is_name-clause-found
returns-then-not-is_name-clause-found c =
    let items = c.deref-member-items.ensures.value in
    some_seen member_seen _ c.args.schema.now.sets.items _ c.loop-member.member-index c.member-item.result c.requires.sets (rw items at c.loop-member-test.true) (rw items at c.member-item.is) (ap not (sym c.is_name.ensures.value ∙ c.if-not-is_name.true))

pub returns-clause-none : goal.returns-clause-none
returns-clause-none c =
    all_searched member_seen (λ m. is_name m.0) c.args.schema.now.sets.items (set_members (root_of c.args.schema.now)) c.loop-member.member-index c.requires.sets (omega (arith, c.deref-member-items.ensures.len, ap length c.deref-member-items.ensures.value)) c.loop-member.invariant
