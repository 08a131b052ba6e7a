use Rattle.std.proofs.Common.{◌≡◌, ◌∙◌, ◌^◌, ◌*ℤ◌, ap, sym, pos, to_z, of_z}
use Rattle.std.specs.Prelude.{int_le}
use Rattle.std.specs.Int.{w64, w128}
use Rattle.std.proofs.lemmas.Int.{to_z-of_z}
use Rattle.edm_values.specs.Values.{number_part, seen_value}
use Rattle.top_family.proofs.Totals.{sum-least}
use Rattle.top_family.proofs.Wide.{power_above, power_is}
use Rattle.top_family.specs.Selections.{seen_values}
use Rattle.top_family.specs.Thresholds.{scale_in}
use Rattle.top_family.proofs.thresholds.least_of_bound.Goals as goal

pub quotient_up-requires : goal.quotient_up-requires
quotient_up-requires c = power_above c.power_of_ten.result c.scale.result c.power_of_ten.ensures c.scale.ensures.limit

pub returns : goal.returns
returns c =
    let v = number_part (seen_value c.args.bound) in
    let vs = seen_values c.args.values.now in
    let mantissa : to_z w64 (of_z w64 c.mantissa.result) ≡ v.0 = to_z-of_z w64 c.mantissa.result (record { sfits = c.mantissa.type_inv }) ∙ c.mantissa.ensures.value in
    let scale : c.scale.result ≡ v.1 = c.scale.ensures.value in
    let raised : to_z w128 (of_z w128 c.raised-raised.result) ≡ v.0 *ℤ pos (10 ^ scale_in vs) = to_z-of_z w128 c.raised-raised.result (record { sfits = c.raised-raised.type_inv }) ∙ c.raised-raised.ensures ∙ (λ i. mantissa i *ℤ pos (10 ^ c.scale_of.ensures.value i)) in
    let power : to_z w128 (of_z w128 c.power_of_ten.result) ≡ pos (10 ^ v.1) = power_is c.power_of_ten.result c.scale.result c.power_of_ten.ensures c.scale.ensures.limit ∙ ap (λ s. pos (10 ^ s)) scale in
    let least = to_z-of_z w128 c.quotient_up.result (record { sfits = c.quotient_up.type_inv }) in
    sum-least v (to_z w128 (of_z w128 c.quotient_up.result)) vs c.requires.numbers (λ x. (λ i. int_le (sym raised i) (x *ℤ sym power i)) ∙ c.quotient_up.ensures x ∙ ap (λ u. int_le u x) (sym least))
