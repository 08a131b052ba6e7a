use Rattle.std.proofs.Common.{◌≡◌, map, take}
use Rattle.serde_json.specs.View.{view}
use Rattle.edm_model.specs.ModelFile.{custom_from}
use Rattle.edm_schema.specs.declared.members.Member.{Member}
use Rattle.edm_model.proofs.build.customs_of.Given as goal

abbrev pub invariant-loop-member : goal.invariant-loop-member
invariant-loop-member l = l.customs.items ≡ map (λ (m : Member). custom_from m.name.now (view m.value.now)) (take l.member-index l.t.definitions.items)
