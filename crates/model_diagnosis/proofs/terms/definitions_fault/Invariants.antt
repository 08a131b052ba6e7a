-- The members that were searched keep the rule.
use Rattle.std.proofs.Common.{◌≡◌, true, take}
use Rattle.std.specs.List.{list_all}
use Rattle.std.specs.Prelude.{◌&&◌}
use Rattle.edm_schema.specs.MemberLists.{member_seen, tree_of}
use Rattle.edm_schema.specs.ModelTrees.{is_definition, is_custom_name}
use Rattle.edm_schema.specs.declared.members.Member.{Member}
use Rattle.model_diagnosis.proofs.terms.definitions_fault.Given as goal

abbrev pub invariant-loop-member : goal.invariant-loop-member
invariant-loop-member l = list_all (λ (m : Member). is_definition (member_seen m).1 && is_custom_name (tree_of l.t) (member_seen m).0) (take l.member-index l.t.definitions.items) ≡ true
