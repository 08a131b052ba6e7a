use Rattle.std.proofs.Common.{◌≡◌, map, take}
use Rattle.std.specs.List.{All}
use Rattle.serde_json.specs.View.{view}
use Rattle.edm_schema.specs.JsonTrees.{members_in}
use Rattle.edm_schema.specs.MemberLists.{member_seen, type_seen, IsTypeTree}
use Rattle.edm_schema.specs.NameOrders.{AreOrdered}
use Rattle.edm_schema.proofs.schema.type_trees.Given as goal

abbrev pub invariant-loop-member : goal.invariant-loop-member
invariant-loop-member l = record {
  seen : map type_seen l.types.items ≡ map member_seen (take l.member-index l.members);
  parts : All IsTypeTree l.types.items;
  ordered : All (λ m. AreOrdered (map (λ n. n.0) (members_in (view m.value.now)))) (take l.member-index l.members);
}
