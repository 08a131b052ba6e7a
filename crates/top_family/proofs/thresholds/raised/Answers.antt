use Rattle.std.proofs.Common.{◌≡◌, ◌≤◌, ◌^◌, ◌*ℤ◌, ◌∙◌, ap, sym, subst, nat_abs, pos}
use Rattle.std.specs.Int.{w64}
use Rattle.std.specs.Int.Signed.{nat_abs-le}
use Rattle.std.proofs.lemmas.Int.{to_z-of_z}
use Rattle.top_family.proofs.Wide.{raised_fits, raised_is}
use Rattle.top_family.proofs.thresholds.raised.Goals as goal

pub overflow_mul-result : goal.overflow_mul-result
overflow_mul-result c =
    let exact : c.from.result ≡ c.args.mantissa = c.from.ensures ∙ to_z-of_z w64 c.args.mantissa c.ranges.mantissa in
    let size : nat_abs c.from.result ≤ 2 ^ 63 = subst (λ z. nat_abs z ≤ 2 ^ 63) (sym exact) (nat_abs-le c.args.mantissa c.ranges.mantissa.sfits) in
    raised_fits c.from.result c.power_of_ten.result c.args.by size c.power_of_ten.ensures c.requires

pub returns : goal.returns
returns c =
    let exact : c.from.result ≡ c.args.mantissa = c.from.ensures ∙ to_z-of_z w64 c.args.mantissa c.ranges.mantissa in
    let size : nat_abs c.from.result ≤ 2 ^ 63 = subst (λ z. nat_abs z ≤ 2 ^ 63) (sym exact) (nat_abs-le c.args.mantissa c.ranges.mantissa.sfits) in
    raised_is c.from.result c.power_of_ten.result c.args.by size c.power_of_ten.ensures c.requires ∙ ap (λ z. z *ℤ pos (10 ^ c.args.by)) exact
