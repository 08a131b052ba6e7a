use Rattle.std.proofs.Common.{◌≡◌, map, take}
use Rattle.edm_model.specs.ModelFile.{type_of}
use Rattle.edm_schema.specs.MemberLists.{root_of, type_seen}
use Rattle.edm_schema.specs.declared.schema.TypeTree.{TypeTree}
use Rattle.edm_model.proofs.build.types_of.Given as goal

abbrev pub invariant-loop-t : goal.invariant-loop-t
invariant-loop-t l = l.types.items ≡ map (λ (t : TypeTree). type_of (root_of l.schema) (type_seen t)) (take l.t-index l.schema.types.items)
