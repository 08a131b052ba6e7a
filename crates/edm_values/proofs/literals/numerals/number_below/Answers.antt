-- With the next digit the number is that of one digit more; from the limit on it never falls below it.
use Rattle.std.proofs.Common.{◌+◌, arith}
use Rattle.std.specs.Str.Parse.{digits_value_after}
use Rattle.edm_values.proofs.DigitLaws.{value_step, value_front, below-fails}
use Rattle.edm_values.proofs.literals.numerals.number_below.Goals as goal

pub returns-then-number-limit : goal.returns-then-number-limit
returns-then-number-limit c =
    let step = value_step c.args.start c.args.digits.now c.loop-digit.digit-index c.loop-digit.number c.from.result c.requires.digits (omega arith) c.loop-digit.invariant.value c.from.ensures in
    let front = value_front c.args.start c.args.digits.now (c.loop-digit.digit-index + 1) in
    below-fails c.args.limit (digits_value_after 10 c.args.start c.args.digits.now) (omega (arith, step, front))

pub loop-digit-preserved : goal.loop-digit-preserved
loop-digit-preserved c = record {
  value = value_step c.args.start c.args.digits.now c.loop-digit.digit-index c.loop-digit.number c.from.result c.requires.digits (omega arith) c.loop-digit.invariant.value c.from.ensures;
  small = omega arith;
}
