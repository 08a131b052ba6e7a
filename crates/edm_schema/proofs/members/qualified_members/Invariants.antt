use Rattle.std.proofs.Common.{◌≡◌, map, take}
use Rattle.std.specs.Prelude.{filter}
use Rattle.edm_schema.specs.JsonTrees.{Member}
use Rattle.edm_schema.specs.ModelTrees.{qualifier, is_of_term}
use Rattle.edm_schema.specs.MemberLists.{member_seen}
use Rattle.edm_schema.proofs.members.qualified_members.Given as goal

abbrev pub invariant-loop-member : goal.invariant-loop-member
invariant-loop-member l =
    map member_seen l.found.items ≡ map (λ (m : Member). (qualifier l.term m.0, m.1)) (filter (λ m. is_of_term l.term m.0) (map member_seen (take l.member-index l.members)))
