use Rattle.std.proofs.Common.{◌≡◌}
use Rattle.std.specs.Prelude.{not, find}
use Rattle.serde_json.specs.View.{members_view}
use Rattle.edm_model.specs.JsonTrees.{member_list}
use Rattle.edm_model.specs.LookUps.{properties_of}
use Rattle.edm_data.specs.DataFile.{is_known_member}
use Rattle.data_diagnosis.proofs.shapes.unknown_member.Given as goal

abbrev pub invariant-loop-name : goal.invariant-loop-name
invariant-loop-name l = find (λ e. not (is_known_member (properties_of l.model l.t) e)) (member_list (members_view l.name-iterator)) ≡ find (λ e. not (is_known_member (properties_of l.model l.t) e)) (member_list (members_view l.members.entries))
