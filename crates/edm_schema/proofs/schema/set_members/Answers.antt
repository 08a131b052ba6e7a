use Rattle.std.proofs.Common.{map, subst}
use Rattle.std.specs.Prelude.{Option, option_map, unwrap_or}
use Rattle.std.proofs.lemmas.Result.{IfOk-weaker}
use Rattle.serde_json.specs.Data.{null}
use Rattle.edm_schema.specs.JsonTrees as tree
use Rattle.edm_schema.specs.JsonTrees.{members_in}
use Rattle.edm_schema.specs.MemberLists.{member_seen}
use Rattle.edm_schema.specs.NameOrders.{AreOrdered}
use Rattle.edm_schema.proofs.Ordered.{none_ordered}
use Rattle.edm_schema.proofs.SchemaParts.{set_parts}
use Rattle.edm_schema.proofs.schema.set_members.Goals as goal

pub returns-in_ok-read-in-Some-clause-members : goal.returns-in_ok-read-in-Some-clause-members
returns-in_ok-read-in-Some-clause-members c =
    let members = c.in_ok-members-in-Some in
    let read = c.in_ok-read-in-Some in
    IfOk-weaker c.besides_kind.result _ _ (λ v h. set_parts _ (member_seen c.in-Some.container) members.members.items read.read.items v.items c.in-Some.ensures.value members.ensures (rw c.deref.ensures.value at read.ensures) (rw c.deref-in-Some.ensures.value at h)) c.besides_kind.ensures

pub returns-in-None-clause-ordered : goal.returns-in-None-clause-ordered
returns-in-None-clause-ordered c = subst (λ (o : Option tree.Member). AreOrdered (map (λ m. m.0) (members_in (unwrap_or (option_map (λ m. m.1) o) null)))) c.in-None.ensures.value none_ordered
