use Rattle.std.proofs.Common.{◌≡◌}
use Rattle.std.specs.List.{list_all}
use Rattle.serde_json.specs.View.{members_view}
use Rattle.edm_model.specs.JsonTrees.{member_list}
use Rattle.edm_model.specs.LookUps.{properties_of}
use Rattle.edm_data.specs.DataFile.{is_known_member}
use Rattle.edm_data.proofs.entities.has_known_members.Given as goal

abbrev pub invariant-loop-name : goal.invariant-loop-name
invariant-loop-name l = list_all (is_known_member (properties_of l.model l.t)) (member_list (members_view l.name-iterator)) ≡ list_all (is_known_member (properties_of l.model l.t)) (member_list (members_view l.members.entries))
