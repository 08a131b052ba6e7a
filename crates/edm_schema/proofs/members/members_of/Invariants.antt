use Rattle.std.proofs.Common.{◌≡◌, map, ◌++◌}
use Rattle.serde_json.specs.View.{view, members_view}
use Rattle.edm_schema.specs.JsonTrees.{member_list, members_in}
use Rattle.edm_schema.specs.MemberLists.{member_seen}
use Rattle.edm_schema.proofs.members.members_of.Given as goal

abbrev pub invariant-loop-name : goal.invariant-loop-name
invariant-loop-name l =
    map member_seen l.found.items ++ member_list (members_view l.name-iterator) ≡ members_in (view l.value)
