-- The place of the first point, or the length.
use Rattle.edm_values.specs.Literals.{is_point}
use Rattle.edm_values.proofs.DigitLaws.{found_place, no_place}
use Rattle.edm_values.proofs.literals.decimal.point_place.Goals as goal

pub returns-in-Some : goal.returns-in-Some
returns-in-Some c = found_place is_point c.args.text.now _ c.in-Some.ensures

pub returns-in-None : goal.returns-in-None
returns-in-None c = no_place is_point c.args.text.now c.in-None.ensures
