use Rattle.std.proofs.Common.{◌≡◌, map, take}
use Rattle.edm_model.specs.ModelFile.{property_of}
use Rattle.edm_schema.specs.MemberLists.{member_seen}
use Rattle.edm_schema.specs.declared.members.Member.{Member}
use Rattle.edm_model.proofs.build.properties_of.Given as goal

abbrev pub invariant-loop-member : goal.invariant-loop-member
invariant-loop-member l = l.properties.items ≡ map (λ (m : Member). property_of (member_seen m)) (take l.member-index l.t.properties.items)
