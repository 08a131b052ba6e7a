-- The digits before the point, those after it, and zeros are read one after another, each below the limit.
use Rattle.std.proofs.Common.{◌≡◌, ◌-◌, ◌*◌, ◌^◌, length, take, ◌∙◌, ap}
use Rattle.edm_values.specs.Literals.{fraction_part}
use Rattle.edm_values.specs.Numerals.{below}
use Rattle.edm_values.proofs.DigitLaws.{kept_digits, size_past_whole, size_past_kept, size_whole}
use Rattle.edm_values.proofs.literals.decimal.mantissa_size.Goals as goal

pub returns-in_err-whole : goal.returns-in_err-whole
returns-in_err-whole c =
    c.from_residual.ensures ∙ size_past_whole c.args.limit c.args.scale c.args.text.now c.whole_part.result.now c.whole_part.ensures c.in_err-whole.ensures

pub number_below-requires-2-clause-digits : goal.number_below-requires-2-clause-digits
number_below-requires-2-clause-digits c =
    let kept : c.first_bytes-fraction.result.now ≡ take c.args.scale (fraction_part c.args.text.now) = cc in
    rw kept (kept_digits c.args.scale c.args.text.now c.requires.form)

pub returns-in_err-kept : goal.returns-in_err-kept
returns-in_err-kept c =
    let kept : c.first_bytes-fraction.result.now ≡ take c.args.scale (fraction_part c.args.text.now) = cc in
    c.from_residual-in_err-kept.ensures
    ∙ size_past_kept c.args.limit c.args.scale c.in_ok-whole.whole c.args.text.now c.whole_part.result.now c.first_bytes-fraction.result.now c.whole_part.ensures kept c.in_ok-whole.ensures c.in_err-kept.ensures

pub returns : goal.returns
returns c =
    let kept : c.first_bytes-fraction.result.now ≡ take c.args.scale (fraction_part c.args.text.now) = cc in
    c.raised_below.ensures
    ∙ ap (λ n. below c.args.limit (c.in_ok-kept.kept * 10 ^ (n - length c.first_bytes-fraction.result.now))) c.from-2.ensures
    ∙ size_whole c.args.limit c.args.scale c.in_ok-whole.whole c.in_ok-kept.kept c.args.text.now c.whole_part.result.now c.first_bytes-fraction.result.now c.whole_part.ensures kept c.in_ok-whole.ensures c.in_ok-kept.ensures
