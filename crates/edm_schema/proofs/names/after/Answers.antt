use Rattle.std.proofs.Common.{◌≡◌, true, false, length, drop, Some, None, refl, sym, ◌∙◌, ap, subst, nat_eq}
use Rattle.std.specs.Prelude.{option_map, if◌then◌else◌}
use Rattle.std.specs.List.{starts_with}
use Rattle.std.specs.Str.{IsCharBoundary}
use Rattle.std.proofs.lemmas.Str.Pattern.{starts_text}
use Rattle.edm_schema.proofs.QualifiedNames.{by_option}
use Rattle.edm_schema.proofs.names.after.Goals as goal

pub returns : goal.returns
returns c =
    let front = c.args.front.now in
    let text = c.args.text.now in
    by_option (λ o. option_map (λ r. r.now) o ≡ (if starts_with nat_eq text front then Some (drop (length front) text) else None)) c.strip_prefix.result c.strip_prefix.ensures.cases
    (λ none. rw (sym (starts_text false _ _ none)) refl)
    (λ r cut.
    let boundary : IsCharBoundary text cut.0 = subst (λ i. IsCharBoundary text i) (sym cut.1.0) cut.1.2 in
    let begins : starts_with nat_eq text front ≡ true = sym (starts_text true _ _ (cut.0, cut.1, boundary)) in
    rw begins (ap Some (cut.2 ∙ ap (λ i. drop i text) cut.1.0)))
