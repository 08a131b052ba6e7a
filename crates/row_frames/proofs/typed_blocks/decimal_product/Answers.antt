-- The product at the decimal's scale.
use Rattle.std.proofs.Common.{rules, ◌≡◌, ◌∙◌, ap, refl}
use Rattle.std.specs.Prelude.{◌*ℤ◌, option_map, unwrap_or}
use Rattle.edm_values.specs.declared.Value.{Value}
use Rattle.edm_values.specs.Values.{dec, decimal_of, times}
use Rattle.row_frames.proofs.OperatorLemmas.{decimal-there, decimal-times}
use Rattle.row_frames.proofs.typed_blocks.decimal_product.Goals as goal

pub returns : goal.returns
returns c =
    let total : c.in_ok-m.m ≡ c.mantissa.result *ℤ c.args.y = search rules in
    let made : c.new.result ≡ decimal_of c.in_ok-m.m c.scale.result = search rules in
    decimal-there c.new.result (times (Value.Dec c.args.x) (Value.Int c.args.y))
    (ap (λ r. unwrap_or (option_map Value.Dec r) Value.Beyond) made ∙ ap (λ s. dec c.in_ok-m.m s) c.scale.ensures.value
    ∙ decimal-times c.args.x c.args.y c.in_ok-m.m c.args.x.scale refl (total ∙ ap (λ z. z *ℤ c.args.y) c.mantissa.ensures.value))
