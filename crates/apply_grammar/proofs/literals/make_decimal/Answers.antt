use Rattle.std.proofs.Common.{◌∙◌, arith, to_z, w64}
use Rattle.std.proofs.lemmas.Int.{to_z_pos}
use Rattle.apply_grammar.proofs.Made.{decimal_made}
use Rattle.apply_grammar.proofs.literals.make_decimal.Goals as goal

pub returns-clause-mantissa : goal.returns-clause-mantissa
returns-clause-mantissa c = (decimal_made (to_z w64 c.args.mantissa) c.args.scale c.in-Some.decimal c.in-Some.ensures.value).0 ∙ to_z_pos w64 c.args.mantissa (omega (arith, c.requires.mantissa))

pub returns-clause-scale : goal.returns-clause-scale
returns-clause-scale c = (decimal_made (to_z w64 c.args.mantissa) c.args.scale c.in-Some.decimal c.in-Some.ensures.value).1
