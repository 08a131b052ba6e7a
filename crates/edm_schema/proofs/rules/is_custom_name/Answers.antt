use Rattle.std.proofs.Common.{◌≡◌, true, false, not, sym, ◌∙◌, ap}
use Rattle.std.specs.Prelude.{◌&&◌, is_some}
use Rattle.std.specs.List.{list_any}
use Rattle.edm_values.specs.Lists.{same_text}
use Rattle.edm_schema.specs.JsonTrees.{members_in}
use Rattle.edm_schema.specs.ModelTrees.{aggregate_term, is_of_term, qualifier}
use Rattle.edm_schema.specs.MemberLists.{tree_of}
use Rattle.edm_schema.proofs.RuleFacts.{own_has_name, term_has_name, denied}
use Rattle.edm_schema.proofs.rules.is_custom_name.Goals as goal

pub returns-then-is_some : goal.returns-then-is_some
returns-then-is_some c =
    let t = c.args.t.now in
    let name = c.args.name.now in
    let found = term_has_name aggregate_term t.aggregates.items (tree_of t) name c.requires.aggregates in
    let here : list_any (λ m. is_of_term aggregate_term m.0 && same_text (qualifier aggregate_term m.0) name) (members_in (tree_of t)) ≡ true = sym found ∙ (ap is_some (sym (rw c.as_slice.ensures.value at c.find_named.ensures.value)) ∙ (sym c.is_some.ensures ∙ c.if-is_some.true)) in
    let own = ap is_some (rw c.as_slice-then-is_some.ensures.value at c.find_named-then-is_some.ensures.value) ∙ own_has_name t.own.items (tree_of t) name c.requires.own in
    rw here (denied _ _ c.is_none.ensures ∙ ap not own)

pub returns-else-is_some : goal.returns-else-is_some
returns-else-is_some c =
    let t = c.args.t.now in
    let name = c.args.name.now in
    let found = term_has_name aggregate_term t.aggregates.items (tree_of t) name c.requires.aggregates in
    let none : list_any (λ m. is_of_term aggregate_term m.0 && same_text (qualifier aggregate_term m.0) name) (members_in (tree_of t)) ≡ false = sym found ∙ (ap is_some (sym (rw c.as_slice.ensures.value at c.find_named.ensures.value)) ∙ (sym c.is_some.ensures ∙ c.if-is_some.false)) in
    rw none c.if-is_some.false
