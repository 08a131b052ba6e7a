-- A numeral that `parse` refuses does not fit.
use Rattle.std.proofs.Common.{◌≡◌, true}
use Rattle.std.specs.Str.Parse.{without_leading_sign}
use Rattle.edm_values.specs.Literals.{is_digits}
use Rattle.edm_values.proofs.DigitLaws.{integer_past}
use Rattle.edm_values.proofs.literals.read_integer.Goals as goal

pub returns-in-Err : goal.returns-in-Err
returns-in-Err c =
    let digits : is_digits (without_leading_sign c.args.text.now) ≡ true = cc in
    integer_past c.args.text.now digits c.in-Err.ensures.value.0
