-- The sum at the decimal's scale.
use Rattle.std.proofs.Common.{rules, ◌≡◌, ◌∙◌, ◌^◌, ap, pos, ◌+ℤ◌, refl}
use Rattle.std.specs.Prelude.{◌*ℤ◌, option_map, unwrap_or}
use Rattle.edm_values.specs.declared.Value.{Value}
use Rattle.edm_values.specs.Values.{dec, decimal_of, plus}
use Rattle.row_frames.proofs.OperatorLemmas.{decimal-plus, decimal-there}
use Rattle.row_frames.proofs.typed_blocks.decimal_sum.Goals as goal

pub returns : goal.returns
returns c =
    let power : c.in_ok-raised.raised ≡ c.args.y *ℤ pos (10 ^ c.scale.result) = search rules in
    let total : c.in_ok-m.m ≡ c.mantissa.result +ℤ c.in_ok-raised.raised = search rules in
    let made : c.new.result ≡ decimal_of c.in_ok-m.m c.scale-2.result = search rules in
    decimal-there c.new.result (plus (Value.Dec c.args.x) (Value.Int c.args.y))
    (ap (λ r. unwrap_or (option_map Value.Dec r) Value.Beyond) made ∙ ap (λ s. dec c.in_ok-m.m s) c.scale-2.ensures.value
    ∙ decimal-plus c.args.x c.args.y c.in_ok-raised.raised c.in_ok-m.m c.args.x.scale refl
    (power ∙ ap (λ s. c.args.y *ℤ pos (10 ^ s)) c.scale.ensures.value)
    (total ∙ ap (λ z. z +ℤ c.in_ok-raised.raised) c.mantissa.ensures.value))
