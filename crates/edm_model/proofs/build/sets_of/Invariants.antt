use Rattle.std.proofs.Common.{◌≡◌, map, take}
use Rattle.edm_model.specs.ModelFile.{set_of}
use Rattle.edm_schema.specs.MemberLists.{member_seen, root_of}
use Rattle.edm_schema.specs.declared.members.Member.{Member}
use Rattle.edm_model.proofs.build.sets_of.Given as goal

abbrev pub invariant-loop-member : goal.invariant-loop-member
invariant-loop-member l = l.sets.items ≡ map (λ (m : Member). set_of (root_of l.schema) (member_seen m)) (take l.member-index l.schema.sets.items)
