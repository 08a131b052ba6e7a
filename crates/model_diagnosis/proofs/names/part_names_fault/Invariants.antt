-- The entity types that were searched keep the rule.
use Rattle.std.proofs.Common.{◌≡◌, true, take}
use Rattle.std.specs.List.{list_all}
use Rattle.edm_schema.specs.MemberLists.{type_seen}
use Rattle.edm_schema.specs.ModelTrees.{has_simple_parts}
use Rattle.edm_schema.specs.declared.schema.TypeTree.{TypeTree}
use Rattle.model_diagnosis.proofs.names.part_names_fault.Given as goal

abbrev pub invariant-loop-t : goal.invariant-loop-t
invariant-loop-t l = list_all (λ (t : TypeTree). has_simple_parts (type_seen t).1) (take l.t-index l.schema.types.items) ≡ true
