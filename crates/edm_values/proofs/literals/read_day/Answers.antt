-- The parts of a day's text are digits.
use Rattle.std.proofs.Common.{sym, ◌∙◌}
use Rattle.edm_values.proofs.DigitLaws.{day_digits}
use Rattle.edm_values.proofs.literals.read_day.Goals as goal

pub number_below-requires-3-clause-digits : goal.number_below-requires-3-clause-digits
number_below-requires-3-clause-digits c = day_digits c.args.text.now (sym c.is_day_text.ensures ∙ c.if-not-is_day_text.false)
