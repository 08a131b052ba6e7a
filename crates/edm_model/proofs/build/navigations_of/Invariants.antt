use Rattle.std.proofs.Common.{◌≡◌, map, take}
use Rattle.edm_model.specs.ModelFile.{navigation_of}
use Rattle.edm_schema.specs.MemberLists.{member_seen, tree_of, root_of}
use Rattle.edm_schema.specs.declared.members.Member.{Member}
use Rattle.edm_model.proofs.build.navigations_of.Given as goal

abbrev pub invariant-loop-member : goal.invariant-loop-member
invariant-loop-member l = l.navigations.items ≡ map (λ (m : Member). navigation_of (root_of l.schema) (tree_of l.t) (member_seen m)) (take l.member-index l.t.navigations.items)
