use Rattle.edm_schema.proofs.SchemaParts.{schema_parts}
use Rattle.edm_schema.proofs.schema.read_schema.Goals as goal

pub returns-clause-parts : goal.returns-clause-parts
returns-clause-parts c =
    schema_parts _ c.in_ok-read.read.items c.in_ok-typed.typed.items
    c.namespace-namespace.ensures.value
    c.in_ok-members.ensures.members
    c.in_ok-members.ensures.ordered
    (rw c.deref.ensures.value at c.in_ok-read.ensures)
    (rw c.deref-2.ensures.value at c.in_ok-containers.ensures)
    (rw c.deref-3.ensures.value at c.in_ok-typed.ensures)
    (rw c.deref-4.ensures.value at c.in_ok-types.ensures.seen)
    c.in_ok-types.ensures.parts
    (rw c.deref-4.ensures.value at c.in_ok-types.ensures.ordered)
    (rw c.deref-5.ensures.value at c.in_ok-sets.ensures.members)
    (rw c.deref-5.ensures.value at c.in_ok-sets.ensures.ordered)
