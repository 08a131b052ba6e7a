-- A numeral that `parse` refuses is past every limit.
use Rattle.std.proofs.Common.{◌≡◌, ◌<◌, ◌^◌, true, arith}
use Rattle.edm_values.specs.Literals.{is_digits}
use Rattle.serve_options.proofs.NumberLaws.{number_refused}
use Rattle.serve_options.proofs.rules.number_within.Goals as goal

pub returns-in_default : goal.returns-in_default
returns-in_default c =
    let digits : is_digits c.args.text.now ≡ true = cc in
    let small : c.args.most < 2 ^ 64 = omega arith in
    number_refused c.args.least c.args.most c.args.text.now c.in_default.field-0 digits small c.in_default.ensures.value.0
