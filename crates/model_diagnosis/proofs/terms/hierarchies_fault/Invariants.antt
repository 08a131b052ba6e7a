-- The members that were searched keep the rule.
use Rattle.std.proofs.Common.{◌≡◌, true, take}
use Rattle.std.specs.List.{list_all}
use Rattle.edm_schema.specs.MemberLists.{member_seen, tree_of, root_of}
use Rattle.edm_schema.specs.ModelTrees.{is_hierarchy}
use Rattle.edm_schema.specs.declared.members.Member.{Member}
use Rattle.model_diagnosis.proofs.terms.hierarchies_fault.Given as goal

abbrev pub invariant-loop-member : goal.invariant-loop-member
invariant-loop-member l = list_all (λ (m : Member). is_hierarchy (root_of l.schema) l.k (tree_of l.t) (member_seen m).1) (take l.member-index l.t.hierarchies.items) ≡ true
