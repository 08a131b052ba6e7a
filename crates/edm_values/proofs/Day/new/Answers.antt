-- The day that is made is the one of its parts, and there is none where the calendar has none.
use Rattle.std.proofs.Common.{◌≡◌, pos, nat_abs, w8, w16, w32, to_z, of_z, arith, refl}
use Rattle.std.proofs.lemmas.Bool.{false≢true}
use Rattle.std.proofs.lemmas.Int.{ints}
use Rattle.edm_values.proofs.MadeValues.{day_from_parts, no_day, IsDate_along}
use Rattle.edm_values.proofs.Day.new.Goals as goal

pub returns-in-Ok : goal.returns-in-Ok
returns-in-Ok c =
    record {
      value = let e : pos (nat_abs (to_z w32 (of_z w32 c.args.year))) ≡ c.args.year = omega (arith, ints) in
          day_from_parts _ c.args.year c.args.month c.args.day e refl refl;
    }

pub returns-in-Err : goal.returns-in-Err
returns-in-Err c =
    record {
      value = no_day c.args.year c.args.month c.args.day (λ h.
          let y : c.args.year ≡ to_z w16 (of_z w16 (to_z w32 (of_z w32 c.args.year))) = omega (arith, ints) in
          let m : pos c.args.month ≡ to_z w8 c.args.month = omega (arith, ints) in
          let d : pos c.args.day ≡ to_z w8 c.args.day = omega (arith, ints) in
          false≢true (c.in-Err.ensures.succeeds.1 (IsDate_along y m d h)));
    }
