-- The members that were searched keep the rule.
use Rattle.std.proofs.Common.{◌≡◌, true, take}
use Rattle.std.specs.List.{list_all}
use Rattle.edm_schema.specs.MemberLists.{member_seen}
use Rattle.model_diagnosis.specs.Searched.{is_sound_property}
use Rattle.edm_schema.specs.declared.members.Member.{Member}
use Rattle.model_diagnosis.proofs.parts.properties_fault.Given as goal

abbrev pub invariant-loop-member : goal.invariant-loop-member
invariant-loop-member l = list_all (λ (m : Member). is_sound_property (member_seen m).1) (take l.member-index l.t.properties.items) ≡ true
