use Rattle.std.proofs.Common.{◌≡◌, sym, ap, subst, ◌∙◌, Some, None, List, ℕ, string_bytes}
use Rattle.std.specs.Prelude.{not, find}
use Rattle.std.specs.Option.{option_map}
use Rattle.std.proofs.lemmas.Result.{err_from_is_err_and}
use Rattle.serde_json.specs.Find.{as_object}
use Rattle.serde_json.specs.View.{view, members_view}
use Rattle.edm_model.specs.JsonTrees.{member_list}
use Rattle.edm_data.specs.DataFile.{entities_in_tree, is_set_member, items_of_sets, rows_reading, World'}
use Rattle.edm_data.specs.Refusals.{Tells}
use Rattle.edm_data.proofs.TreeLemmas.{tables_fit, world_is}
use Rattle.edm_data.proofs.LoadLemmas.{an_object, no_member_found}
use Rattle.edm_data.proofs.load.read_tables.Goals as goal

pub new-requires : goal.new-requires
new-requires c = tables_fit c.args.model (view c.args.root.now) c.in_ok-sets.sets c.in_ok-sets.ensures.ok c.in_ok-sets.ensures.few

pub returns-in_err-sets-clause-refused : goal.returns-in_err-sets-clause-refused
returns-in_err-sets-clause-refused c =
    let m = c.args.model in
    let d = view c.args.root.now in
    let members = members_view c.in-Some.members.now.entries in
    let object : as_object d ≡ Some members = sym c.as_object.ensures ∙ ap (option_map (λ x. members_view x.now.entries)) c.in-Some.is in
    let none : option_map {U = List ℕ} (λ e. e.0) (find (λ e. not (is_set_member m e)) (member_list members)) ≡ None = sym c.first_other_member.ensures ∙ ap (option_map (λ n. string_bytes n.now)) c.in_default-first_other_member.is in
    let rows : entities_in_tree m d ≡ rows_reading m (items_of_sets m d) = an_object m d members object ∙ no_member_found (find (λ e. not (is_set_member m e)) (member_list members)) (rows_reading m (items_of_sets m d)) none in
    let p = err_from_is_err_and c.from_residual.result c.from_residual.ensures.1 in
    rw (p.1, p.2) (subst (Tells c.in_err-sets.field-0.0) (sym rows) c.in_err-sets.ensures.refused)

pub returns-clause-ok : goal.returns-clause-ok
returns-clause-ok c =
    let m = c.args.model in
    let d = view c.args.root.now in
    let members = members_view c.in-Some.members.now.entries in
    let object : as_object d ≡ Some members = sym c.as_object.ensures ∙ ap (option_map (λ x. members_view x.now.entries)) c.in-Some.is in
    let none : option_map {U = List ℕ} (λ e. e.0) (find (λ e. not (is_set_member m e)) (member_list members)) ≡ None = sym c.first_other_member.ensures ∙ ap (option_map (λ n. string_bytes n.now)) c.in_default-first_other_member.is in
    an_object m d members object
    ∙ no_member_found (find (λ e. not (is_set_member m e)) (member_list members)) (rows_reading m (items_of_sets m d)) none
    ∙ c.in_ok-sets.ensures.accepted
    ∙ ap World' (world_is m c.in_ok-sets.sets (items_of_sets m d) c.in_ok-sets.ensures.ok ∙ sym c.new.ensures)
