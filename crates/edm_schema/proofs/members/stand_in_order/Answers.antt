use Rattle.std.proofs.Common.{map, subst}
use Rattle.std.specs.Prelude.{unwrap_or, Option}
use Rattle.serde_json.specs.Data.{Members, no_members}
use Rattle.edm_schema.specs.JsonTrees.{member_list}
use Rattle.edm_schema.specs.NameOrders.{AreOrdered}
use Rattle.edm_schema.proofs.Ordered.{none_ordered, names_ordered}
use Rattle.edm_schema.proofs.members.stand_in_order.Goals as goal

pub returns-in-Some : goal.returns-in-Some
returns-in-Some c = subst (λ (o : Option Members). AreOrdered (map (λ m. m.0) (member_list (unwrap_or o no_members)))) c.in-Some.ensures (names_ordered c.in-Some.members.now.entries c.iter.ensures.ordered)

pub returns-in-None : goal.returns-in-None
returns-in-None c = subst (λ (o : Option Members). AreOrdered (map (λ m. m.0) (member_list (unwrap_or o no_members)))) c.in-None.ensures none_ordered
