use Rattle.std.proofs.Common.{◌≡◌, true, false, [], ◌∷◌, length, drop, sym, ◌∙◌, ap, nat_eq}
use Rattle.std.specs.Prelude.{◌&&◌, position}
use Rattle.std.specs.List.{starts_with}
use Rattle.serde_json.specs.View.{view}
use Rattle.edm_values.specs.Lists.{same_text}
use Rattle.edm_schema.specs.declared.schema.TypeTree.{TypeTree}
use Rattle.edm_schema.proofs.QualifiedNames.{place_is, nowhere_none, none_chosen, some_chosen}
use Rattle.edm_schema.proofs.links.type_place.Goals as goal

pub returns-in_err-local-clause-value : goal.returns-in_err-local-clause-value
returns-in_err-local-clause-value c =
    let s = c.args.schema.now in
    let text = c.text_at.result.now in
    let rest = drop (length s.namespace.now) text in
    let other = none_chosen (starts_with nat_eq text s.namespace.now) rest c.in_err-local.ensures in
    c.from_residual.ensures ∙ sym (place_is s (view c.args.value.now) text c.requires c.text_at.ensures.value
    ∙ (ap (λ b. position (λ (t : TypeTree). b && (starts_with nat_eq rest (46 ∷ []) && same_text t.name.now (drop 1 rest))) s.types.items) other ∙ nowhere_none s.types.items))

pub returns-in_err-name-clause-value : goal.returns-in_err-name-clause-value
returns-in_err-name-clause-value c =
    let s = c.args.schema.now in
    let text = c.text_at.result.now in
    let rest = drop (length s.namespace.now) text in
    let local = c.in_ok-local.local.now in
    let begun = some_chosen (starts_with nat_eq text s.namespace.now) local rest c.in_ok-local.ensures in
    let other : starts_with nat_eq rest (46 ∷ []) ≡ false = ap (λ r. starts_with nat_eq r (46 ∷ [])) (sym begun.1) ∙ none_chosen (starts_with nat_eq local (46 ∷ [])) (drop 1 local) c.in_err-name.ensures in
    c.from_residual-in_err-name.ensures ∙ sym (place_is s (view c.args.value.now) text c.requires c.text_at.ensures.value
    ∙ (ap (λ b. position (λ (t : TypeTree). b && (starts_with nat_eq rest (46 ∷ []) && same_text t.name.now (drop 1 rest))) s.types.items) begun.0
    ∙ (ap (λ b. position (λ (t : TypeTree). b && same_text t.name.now (drop 1 rest)) s.types.items) other ∙ nowhere_none s.types.items)))

pub returns-clause-value : goal.returns-clause-value
returns-clause-value c =
    let s = c.args.schema.now in
    let text = c.text_at.result.now in
    let rest = drop (length s.namespace.now) text in
    let local = c.in_ok-local.local.now in
    let begun = some_chosen (starts_with nat_eq text s.namespace.now) local rest c.in_ok-local.ensures in
    let found = some_chosen (starts_with nat_eq local (46 ∷ [])) c.in_ok-name.name.now (drop 1 local) c.in_ok-name.ensures in
    let point : starts_with nat_eq rest (46 ∷ []) ≡ true = ap (λ r. starts_with nat_eq r (46 ∷ [])) (sym begun.1) ∙ found.0 in
    (rw c.as_slice.ensures.value at c.find_named.ensures.value)
    ∙ (ap (λ n. position (λ (t : TypeTree). same_text t.name.now n) s.types.items) (found.1 ∙ ap (drop 1) begun.1)
    ∙ sym (place_is s (view c.args.value.now) text c.requires c.text_at.ensures.value
    ∙ (ap (λ b. position (λ (t : TypeTree). b && (starts_with nat_eq rest (46 ∷ []) && same_text t.name.now (drop 1 rest))) s.types.items) begun.0
    ∙ ap (λ b. position (λ (t : TypeTree). b && same_text t.name.now (drop 1 rest)) s.types.items) point)))
