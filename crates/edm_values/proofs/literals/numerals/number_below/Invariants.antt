-- The number so far is that of the digits so far, and below the limit.
use Rattle.std.proofs.Common.{◌≡◌, ◌<◌, take}
use Rattle.std.specs.Str.Parse.{digits_value_after}
use Rattle.edm_values.proofs.literals.numerals.number_below.Given as goal

abbrev pub invariant-loop-digit : goal.invariant-loop-digit
invariant-loop-digit l = record {
  value : l.number ≡ digits_value_after 10 l.start (take l.digit-index l.digits);
  small : l.number < l.limit;
}
