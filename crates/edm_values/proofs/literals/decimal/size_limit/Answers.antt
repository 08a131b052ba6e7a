-- Of the two limits the lesser is taken.
use Rattle.std.proofs.Common.{◌^◌, ◌∙◌, ap, arith}
use Rattle.edm_values.specs.OrderLaws.{power_positive}
use Rattle.edm_values.proofs.DigitLaws.{precision_below, precision_past}
use Rattle.edm_values.proofs.literals.decimal.size_limit.Goals as goal

pub returns-then-precision-lt-PRECISION_MAX-clause-value : goal.returns-then-precision-lt-PRECISION_MAX-clause-value
returns-then-precision-lt-PRECISION_MAX-clause-value c =
    let most = precision_below c.args.precision (omega arith) in
    let power = c.pow.ensures ∙ ap (λ k. 10 ^ k) c.from.ensures in
    omega (arith, most, power)

pub returns-clause-value : goal.returns-clause-value
returns-clause-value c = let least = precision_past c.args.precision (omega arith) in omega (arith, least)

pub returns-then-precision-lt-PRECISION_MAX-clause-least : goal.returns-then-precision-lt-PRECISION_MAX-clause-least
returns-then-precision-lt-PRECISION_MAX-clause-least c = rw c.pow.ensures (power_positive c.from.result)
