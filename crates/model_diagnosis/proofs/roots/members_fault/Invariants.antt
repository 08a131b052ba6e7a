-- The members that were searched keep the rule.
use Rattle.std.proofs.Common.{◌≡◌, true, take}
use Rattle.std.specs.List.{list_all}
use Rattle.edm_schema.specs.MemberLists.{member_seen}
use Rattle.model_diagnosis.specs.Faults.{is_schema_member}
use Rattle.edm_schema.specs.declared.members.Member.{Member}
use Rattle.model_diagnosis.proofs.roots.members_fault.Given as goal

abbrev pub invariant-loop-member : goal.invariant-loop-member
invariant-loop-member l = list_all (λ (m : Member). is_schema_member (member_seen m)) (take l.member-index l.schema.members.items) ≡ true
