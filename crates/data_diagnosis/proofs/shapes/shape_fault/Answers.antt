use Rattle.std.proofs.Common.{◌≡◌, ◌∙◌, sym, ap, subst, true, option_map, Some, None, IfOk, IfNone}
use Rattle.std.specs.Prelude.{not, find, is_some}
use Rattle.serde_json.specs.Find.{as_object}
use Rattle.serde_json.specs.View.{view, members_view}
use Rattle.edm_model.specs.JsonTrees.{member_list}
use Rattle.edm_model.specs.LookUps.{properties_of, set_type}
use Rattle.edm_data.specs.DataFile.{is_known_member}
use Rattle.data_diagnosis.proofs.ShapeFaults.{member-fault, member-refused, entity-values}
use Rattle.data_diagnosis.proofs.shapes.shape_fault.Goals as goal
use Rattle.edm_values.proofs.OptionFacts.{unmapped}

pub returns-in-Some-unknown_member-clause-found : goal.returns-in-Some-unknown_member-clause-found
returns-in-Some-unknown_member-clause-found c =
    let members : as_object (view c.args.item.now) ≡ Some (members_view c.in-Some.members.now.entries) = sym c.as_object.ensures ∙ ap (option_map (λ m. members_view m.now.entries)) c.in-Some.is in
    member-fault c.args.model.now (set_type c.args.model.now c.args.s) c.set_type-t.result (view c.args.item.now) (members_view c.in-Some.members.now.entries) _ c.set_type-t.ensures.value members (sym c.unknown_member.ensures ∙ ap (option_map (λ n. n.now)) c.in-Some-unknown_member.is)

pub returns-in-Some-unknown_member-clause-refused : goal.returns-in-Some-unknown_member-clause-refused
returns-in-Some-unknown_member-clause-refused c =
    let members : as_object (view c.args.item.now) ≡ Some (members_view c.in-Some.members.now.entries) = sym c.as_object.ensures ∙ ap (option_map (λ m. members_view m.now.entries)) c.in-Some.is in
    member-refused c.args.model.now (set_type c.args.model.now c.args.s) c.set_type-t.result (view c.args.item.now) (members_view c.in-Some.members.now.entries) c.in-Some-unknown_member.name.now c.set_type-t.ensures.value members (sym c.unknown_member.ensures ∙ ap (option_map (λ n. n.now)) c.in-Some-unknown_member.is)

pub returns-clause-none : goal.returns-clause-none
returns-clause-none c =
    let m = c.args.model.now in
    let d = view c.args.item.now in
    let members : as_object d ≡ Some (members_view c.in-Some.members.now.entries) = sym c.as_object.ensures ∙ ap (option_map (λ m. members_view m.now.entries)) c.in-Some.is in
    let unknown = find (λ e. not (is_known_member (properties_of m c.set_type-t.result) e)) (member_list (members_view c.in-Some.members.now.entries)) in
    let none : unknown ≡ None = unmapped (λ e. e.0) unknown (sym c.unknown_member.ensures ∙ ap (option_map (λ n. n.now)) c.in_default-unknown_member.is) in
    subst (λ v. IfOk c.value_fault.result (λ o. IfNone o (is_some v ≡ true))) (sym (entity-values m (set_type m c.args.s) c.set_type-t.result d (members_view c.in-Some.members.now.entries) c.set_type-t.ensures.value members none)) c.value_fault.ensures.none
