-- An entity type whose name is no simple identifier.
use Rattle.std.proofs.Common.{not, sym, ◌∙◌, ap, arith, length}
use Rattle.edm_schema.specs.MemberLists.{type_seen, root_of}
use Rattle.edm_values.specs.Names.{is_name}
use Rattle.edm_schema.specs.ModelTrees.{type_members}
use Rattle.model_diagnosis.proofs.Found.{some_seen}
use Rattle.model_diagnosis.proofs.Unbroken.{all_searched}
use Rattle.model_diagnosis.proofs.names.type_names_fault.Goals as goal

pub returns-then-not-is_name-clause-found : goal.returns-then-not-is_name-clause-found
returns-then-not-is_name-clause-found c =
    let items = c.deref-t-items.ensures.value in
    some_seen type_seen _ c.args.schema.now.types.items _ c.loop-t.t-index c.t-item.result c.requires.types (rw items at c.loop-t-test.true) (rw items at c.t-item.is) (ap not (sym c.is_name.ensures.value ∙ c.if-not-is_name.true))

pub returns-clause-none : goal.returns-clause-none
returns-clause-none c =
    all_searched type_seen (λ m. is_name m.0) c.args.schema.now.types.items (type_members (root_of c.args.schema.now)) c.loop-t.t-index c.requires.types (omega (arith, c.deref-t-items.ensures.len, ap length c.deref-t-items.ensures.value)) c.loop-t.invariant
