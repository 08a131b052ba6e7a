use Rattle.std.proofs.Common.{◌≡◌, true, false, sym, ap, ◌∙◌, string_bytes}
use Rattle.std.specs.Prelude.{◌&&◌, is_some, position}
use Rattle.std.specs.List.{list_any}
use Rattle.serde_json.specs.View.{view}
use Rattle.edm_values.specs.Lists.{same_text}
use Rattle.edm_model.specs.JsonTrees.{is_array}
use Rattle.edm_data.proofs.ShapeLemmas.{is_array-is}
use Rattle.edm_data.proofs.entities.is_set_member.Goals as goal
use Rattle.edm_values.proofs.SearchFacts.{is_some-position}

pub returns-then-is_some : goal.returns-then-is_some
returns-then-is_some c =
    let n = string_bytes c.args.name.now in
    let sets = c.args.model.now.sets in
    let named : list_any (λ s. same_text s.name n) sets ≡ true = sym (is_some-position (λ s. same_text s.name n) sets) ∙ ap (λ t. is_some (position (λ s. same_text s.name t) sets)) (sym c.as_str.ensures.value) ∙ ap is_some (sym c.set_named.ensures.value) ∙ sym c.is_some.ensures ∙ c.if-is_some.true in
    c.is_array.ensures ∙ is_array-is (view c.args.value.now) ∙ ap (λ b. b && is_array (view c.args.value.now)) (sym named)

pub returns-else-is_some : goal.returns-else-is_some
returns-else-is_some c =
    let n = string_bytes c.args.name.now in
    let sets = c.args.model.now.sets in
    let named : list_any (λ s. same_text s.name n) sets ≡ false = sym (is_some-position (λ s. same_text s.name n) sets) ∙ ap (λ t. is_some (position (λ s. same_text s.name t) sets)) (sym c.as_str.ensures.value) ∙ ap is_some (sym c.set_named.ensures.value) ∙ sym c.is_some.ensures ∙ c.if-is_some.false in
    c.if-is_some.false ∙ ap (λ b. b && is_array (view c.args.value.now)) (sym named)
