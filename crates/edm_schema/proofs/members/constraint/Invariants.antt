use Rattle.std.proofs.Common.{◌≡◌, ◌++◌, not}
use Rattle.std.specs.Prelude.{filter, option_map}
use Rattle.std.specs.Option.{option_to_list}
use Rattle.serde_json.specs.View.{view, members_view}
use Rattle.edm_schema.specs.JsonTrees.{member_list, only}
use Rattle.edm_schema.specs.ModelTrees.{is_annotation, constraint}
use Rattle.edm_schema.specs.MemberLists.{member_seen}
use Rattle.edm_schema.proofs.members.constraint.Given as goal

abbrev pub invariant-loop-name : goal.invariant-loop-name
invariant-loop-name l =
    only (option_to_list (option_map member_seen l.found) ++ filter (λ m. not (is_annotation m.0)) (member_list (members_view l.name-iterator))) ≡ constraint (view l.navigation)
