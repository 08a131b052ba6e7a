use Rattle.std.proofs.Common.{◌≡◌, true, take}
use Rattle.std.specs.List.{list_all}
use Rattle.edm_schema.specs.ModelTrees.{has_simple_parts}
use Rattle.edm_schema.specs.MemberLists.{tree_of}
use Rattle.edm_schema.specs.declared.schema.TypeTree.{TypeTree}
use Rattle.edm_schema.proofs.rules.have_simple_parts.Given as goal

abbrev pub invariant-loop-t : goal.invariant-loop-t
invariant-loop-t l = list_all (λ (t : TypeTree). has_simple_parts (tree_of t)) (take l.t-index l.schema.types.items) ≡ true
