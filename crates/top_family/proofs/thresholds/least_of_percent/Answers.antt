use Rattle.std.proofs.Common.{◌≡◌, ◌∙◌, ◌*ℤ◌, ap, sym, pos, to_z, of_z}
use Rattle.std.specs.Prelude.{int_le}
use Rattle.std.specs.Int.{w128}
use Rattle.std.proofs.lemmas.Int.{to_z-of_z}
use Rattle.top_family.proofs.Totals.{percent-least}
use Rattle.top_family.specs.Selections.{seen_values}
use Rattle.top_family.specs.Thresholds.{mantissas}
use Rattle.top_family.proofs.thresholds.least_of_percent.Goals as goal

pub returns : goal.returns
returns c =
    let vs = seen_values c.args.values.now in
    let p = c.args.p in
    let all : to_z w128 (of_z w128 c.mantissa_sum.result) ≡ mantissas vs = to_z-of_z w128 c.mantissa_sum.result (record { sfits = c.mantissa_sum.type_inv }) ∙ c.mantissa_sum.ensures.value in
    let least = to_z-of_z w128 c.percent_up.result (record { sfits = c.percent_up.type_inv }) in
    percent-least p (to_z w128 (of_z w128 c.percent_up.result)) vs c.requires.numbers (λ x. ap (λ a. int_le (pos p *ℤ a) (pos 100 *ℤ x)) (sym all) ∙ c.percent_up.ensures x ∙ ap (λ u. int_le u x) (sym least))
