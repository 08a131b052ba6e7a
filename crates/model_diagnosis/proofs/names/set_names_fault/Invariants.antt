-- The members that were searched keep the rule.
use Rattle.std.proofs.Common.{◌≡◌, true, take}
use Rattle.std.specs.List.{list_all}
use Rattle.edm_schema.specs.MemberLists.{member_seen}
use Rattle.edm_values.specs.Names.{is_name}
use Rattle.edm_schema.specs.declared.members.Member.{Member}
use Rattle.model_diagnosis.proofs.names.set_names_fault.Given as goal

abbrev pub invariant-loop-member : goal.invariant-loop-member
invariant-loop-member l = list_all (λ (m : Member). is_name (member_seen m).0) (take l.member-index l.schema.sets.items) ≡ true
