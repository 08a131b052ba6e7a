use Rattle.std.proofs.Common.{map, arith, sym, subst}
use Rattle.std.specs.List.{All}
use Rattle.std.proofs.lemmas.Grind.{common_steps}
use Rattle.std.proofs.lemmas.List.Elements.{All-push, All-more}
use Rattle.serde_json.specs.View.{view}
use Rattle.edm_schema.specs.JsonTrees.{members_in}
use Rattle.edm_schema.specs.MemberLists.{IsTypeTree}
use Rattle.edm_schema.specs.NameOrders.{AreOrdered}
use Rattle.edm_schema.specs.declared.members.Member.{Member}
use Rattle.edm_schema.proofs.schema.type_trees.Goals as goal

abbrev InOrder : Member → Type 0
InOrder m = AreOrdered (map (λ n. n.0) (members_in (view m.value.now)))

pub loop-member-preserved : goal.loop-member-preserved
loop-member-preserved c = record {
  seen = grind (arith, common_steps);
  parts = subst (All IsTypeTree) (sym c.in_ok-push.ensures.items) (All-push IsTypeTree c.loop-member.types.items c.in_ok-entity_type.entity_type c.loop-member.invariant.parts c.in_ok-entity_type.ensures.parts);
  ordered = All-more InOrder c.args.members.now c.loop-member.member-index c.member-item.result c.loop-member-test.true c.loop-member.invariant.ordered (subst InOrder c.member-item.is c.in_ok-entity_type.ensures.ordered);
}
