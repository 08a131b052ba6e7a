use Rattle.std.proofs.Common.{◌∙◌, ap, sym}
use Rattle.std.proofs.lemmas.Str.Pattern.{starts_text, ends_text, contains_text}
use Rattle.edm_values.specs.declared.Value.{Value}
use Rattle.apply_meaning.specs.Instances.{call2}
use Rattle.apply_meaning.proofs.PlaceLemmas.{part-test}
use Rattle.apply_meaning.proofs.operators.holds.Goals as goal

pub returns-in-StartsWith : goal.returns-in-StartsWith
returns-in-StartsWith c =
    let text = c.args.text.now in
    let other = c.args.other.now in
    ap Value.Bool (starts_text _ other text c.starts_with.ensures.cases) ∙ ap (λ f. call2 f (Value.Text text) (Value.Text other)) (sym c.in-StartsWith.is)

pub returns-in-EndsWith : goal.returns-in-EndsWith
returns-in-EndsWith c =
    let text = c.args.text.now in
    let other = c.args.other.now in
    ap Value.Bool (ends_text _ other text c.ends_with.ensures.cases) ∙ ap (λ f. call2 f (Value.Text text) (Value.Text other)) (sym c.in-EndsWith.is)

pub returns-in-Contains : goal.returns-in-Contains
returns-in-Contains c =
    let text = c.args.text.now in
    let other = c.args.other.now in
    ap Value.Bool (part-test _ text other (contains_text _ other text c.contains.ensures.cases)) ∙ ap (λ f. call2 f (Value.Text text) (Value.Text other)) (sym c.in-Contains.is)
