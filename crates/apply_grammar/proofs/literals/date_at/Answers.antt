use Rattle.std.proofs.Common.{◌≡◌, length, arith, to_z, w32}
use Rattle.std.proofs.lemmas.Int.{to_z_pos}
use Rattle.apply_grammar.proofs.Made.{day_read}
use Rattle.apply_grammar.proofs.literals.date_at.Goals as goal

pub returns-in-Some : goal.returns-in-Some
returns-in-Some c =
    let e : length c.args.year.now ≡ 4 = omega arith in
    day_read c.args.year.now c.args.text.now _ _ _ _ _ _ c.in-Some.day (to_z w32 c.in_ok-y.y) c.in_ok-y.ensures.exact c.in_ok-month.ensures.exact c.in_ok-behind.ensures c.in_ok-day.ensures.exact e c.in-Some.ensures.value (to_z_pos w32 c.in_ok-y.y (omega (arith, c.in_ok-y.ensures.small)))
