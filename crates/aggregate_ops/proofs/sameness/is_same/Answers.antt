use Rattle.std.proofs.Common.{◌∙◌, sym}
use Rattle.edm_values.specs.Values.{same_value, seen_value}
use Rattle.aggregate_ops.proofs.SameLemmas.{texts_same}
use Rattle.aggregate_ops.proofs.sameness.is_same.Goals as goal

pub returns-in-Text-Text : goal.returns-in-Text-Text
returns-in-Text-Text c = c.eq.ensures ∙ texts_same c.in-Text-Text.x.now c.in-Text-Text.y.now ∙ sym (λ i. same_value (seen_value (c.in-Text-Text.is-0 i)) (seen_value (c.in-Text-Text.is-1 i)))
