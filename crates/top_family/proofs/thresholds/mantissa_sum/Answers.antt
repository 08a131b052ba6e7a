use Rattle.std.proofs.Common.{◌≡◌, ◌∙◌, ap, sym, arith, ◌+ℤ◌, to_z, of_z}
use Rattle.std.specs.Int.{w128}
use Rattle.std.proofs.lemmas.Int.{ints}
use Rattle.edm_values.specs.Values.{number_part, seen_value}
use Rattle.top_family.proofs.Totals.{seen-more}
use Rattle.top_family.proofs.thresholds.mantissa_sum.Goals as goal

pub loop-value-preserved : goal.loop-value-preserved
loop-value-preserved c =
    let amount = (number_part (seen_value c.value-item.result)).0 in
    let exact : to_z w128 (of_z w128 (to_z w128 c.loop-value.sum-bits +ℤ to_z w128 (of_z w128 c.from-sum.result))) ≡ to_z w128 c.loop-value.sum-bits +ℤ amount = omega (arith, ints) in
    (exact ∙ ap (λ s. s +ℤ amount) c.loop-value.invariant.0 ∙ sym (seen-more c.args.values.now c.loop-value.value-index c.value-item.result c.loop-value-test.true c.value-item.is), omega (arith, ints), omega (arith, ints))
