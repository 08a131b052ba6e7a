use Rattle.std.proofs.Common.{map, sym, ap, subst}
use Rattle.edm_schema.specs.JsonTrees as tree
use Rattle.edm_schema.specs.MemberLists.{member_seen}
use Rattle.edm_schema.specs.NameOrders.{AreOrdered}
use Rattle.edm_schema.proofs.Ordered.{none_ordered}
use Rattle.edm_schema.proofs.schema.schema_members.Goals as goal

pub returns-in-None-clause-ordered : goal.returns-in-None-clause-ordered
returns-in-None-clause-ordered c = subst AreOrdered (ap (λ ms. map (λ (m : tree.Member). m.0) (map member_seen ms)) (sym c.new.ensures.items)) none_ordered
