use Rattle.std.proofs.Common.{◌≡◌, map, take}
use Rattle.serde_json.specs.View.{view}
use Rattle.edm_model.specs.ModelFile.{hierarchy_from}
use Rattle.edm_schema.specs.MemberLists.{tree_of}
use Rattle.edm_schema.specs.declared.members.Member.{Member}
use Rattle.edm_model.proofs.build.hierarchies_of.Given as goal

abbrev pub invariant-loop-member : goal.invariant-loop-member
invariant-loop-member l = l.hierarchies.items ≡ map (λ (m : Member). hierarchy_from (tree_of l.t) m.name.now (view m.value.now)) (take l.member-index l.t.hierarchies.items)
