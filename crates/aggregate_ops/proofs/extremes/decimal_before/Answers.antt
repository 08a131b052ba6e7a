use Rattle.std.proofs.Common.{rules, ◌≡◌, ◌∙◌, ap, sym, int_cmp}
use Rattle.std.specs.Ordering.{is_lt}
use Rattle.edm_values.specs.declared.Value.{Value as Value'}
use Rattle.edm_values.specs.OrderLaws.{same_scale_cmp}
use Rattle.edm_values.specs.Values.{number_cmp, value_cmp}
use Rattle.edm_values.proofs.ValueLaws.{decimals_agree}
use Rattle.aggregate_ops.proofs.extremes.decimal_before.Goals as goal

pub returns-then-scale : goal.returns-then-scale
returns-then-scale c =
    let a = c.args.a in
    let b = c.args.b in
    let scales : a.scale ≡ b.scale = sym c.scale.ensures.value ∙ c.if-scale.true ∙ c.scale-2.ensures.value in
    let mantissas : c.cmp.result ≡ int_cmp a.mantissa b.mantissa = search rules in
    let agree = decimals_agree a b scales in
    let last : number_cmp (a.mantissa, a.scale) (b.mantissa, b.scale) ≡ value_cmp (Value'.Dec a) (Value'.Dec b) = cc in
    let both : c.cmp.result ≡ value_cmp (Value'.Dec a) (Value'.Dec b) =
    mantissas ∙ sym (same_scale_cmp a.mantissa b.mantissa a.scale) ∙ ap (λ t. number_cmp (a.mantissa, a.scale) (b.mantissa, t)) scales ∙ last in
    c.is_lt.ensures ∙ ap is_lt both
