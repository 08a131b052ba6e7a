use Rattle.std.proofs.Common.{◌≡◌, ℕ, ◌<◌, length, None}
use Rattle.edm_data.specs.Links.{AreRelations, IsLeast, IsOfNav, relation_in}
use Rattle.edm_data.specs.References.{count}
use Rattle.edm_data.proofs.RelationLemmas.{any_dangles}
use Rattle.edm_data.proofs.references.set_relations.Given as goal

abbrev pub invariant-loop-n : goal.invariant-loop-n
invariant-loop-n l = record {
  kept : AreRelations l.keyed l.s l.relations;
  len : l.first ≡ None → length l.relations ≡ l.n-index;
  of : l.first ≡ None → (n : ℕ) → n < l.n-index → IsOfNav l.keyed.model l.s n (relation_in l.relations n);
  least : IsLeast (any_dangles l.keyed l.s l.n-index) (count l.keyed l.s) l.first;
}
