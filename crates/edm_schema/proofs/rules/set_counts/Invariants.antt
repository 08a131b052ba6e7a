use Rattle.std.proofs.Common.{◌≡◌, ◌<◌, ℕ, length, get_or, take}
use Rattle.std.specs.Prelude.{count_by}
use Rattle.edm_schema.specs.ModelTrees.{leads_to, type_members}
use Rattle.edm_schema.specs.MemberLists.{member_seen, root_of}
use Rattle.edm_schema.specs.declared.members.Member.{Member}
use Rattle.edm_schema.proofs.rules.set_counts.Given as goal

abbrev pub invariant-loop-member : goal.invariant-loop-member
invariant-loop-member l = record {
  size : length l.counts.items ≡ length (type_members (root_of l.schema));
  counted : (k : ℕ) → k < length (type_members (root_of l.schema)) → get_or l.counts.items k 0 ≡ count_by (λ (m : Member). leads_to (root_of l.schema) k (member_seen m).1) (take l.member-index l.schema.sets.items);
}
