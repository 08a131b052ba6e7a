-- The sum fits in 128 bits.
use Rattle.std.proofs.Common.{◌-◌, ◌^◌, ◌∙◌, ap, pos, ◌+ℤ◌, arith}
use Rattle.std.specs.Prelude.{◌*ℤ◌}
use Rattle.edm_values.proofs.NumberLaws.{wide, sum_wide}
use Rattle.edm_values.proofs.numbers.sum.Goals as goal

pub returns : goal.returns
returns c =
    let left = c.raised.ensures.value ∙ ap (λ z. z *ℤ pos (10 ^ (c.max-scale.result - c.args.a.1))) (wide c.args.a.0 (omega arith)) in
    let right = c.raised-2.ensures.value ∙ ap (λ z. z *ℤ pos (10 ^ (c.max-scale.result - c.args.b.1))) (wide c.args.b.0 (omega arith)) in
    ap (λ z. (z, c.max-scale.result)) (sum_wide c.raised.result c.raised-2.result c.raised.ensures.size c.raised-2.ensures.size ∙ (λ i. left i +ℤ right i))
    ∙ ap (λ s. (c.args.a.0 *ℤ pos (10 ^ (s - c.args.a.1)) +ℤ c.args.b.0 *ℤ pos (10 ^ (s - c.args.b.1)), s)) c.max-scale.ensures
