use Rattle.edm_schema.proofs.SchemaParts.{type_parts}
use Rattle.edm_schema.proofs.schema.type_tree.Goals as goal

pub returns-clause-parts : goal.returns-clause-parts
returns-clause-parts c =
    type_parts _ c.key_name.ensures c.in_ok-members.ensures
    (rw c.deref.ensures.value at c.in_ok-own.ensures)
    (rw c.deref-2.ensures.value at c.in_ok-properties.ensures)
    (rw c.deref-3.ensures.value at c.in_ok-navigations.ensures)
    (rw c.deref-4.ensures.value at c.in_ok-hierarchies.ensures)
    (rw c.deref-5.ensures.value at c.in_ok-aggregates.ensures)
    (rw c.deref-6.ensures.value at c.in_ok-definitions.ensures)
    c.stand_in_order.ensures
