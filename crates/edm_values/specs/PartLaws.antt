-- There is one decimal, and one day, of the same parts.
use Rattle.std.specs.Prelude.{◌≡◌, Bool, true, false, pos, Option, Some, None, IsTrue, option_map, unwrap_or, refl}
use Rattle.std.proofs.Common.{sym, ◌∙◌, ap}
use Rattle.std.proofs.lemmas.Bool.{false≢true}
use mathlib.Core.Bool.{Bool-set}
use Rattle.edm_values.specs.declared.Day.{Day}
use Rattle.edm_values.specs.declared.Dec.{Dec}
use Rattle.edm_values.specs.declared.Value.{Value}
use Rattle.edm_values.specs.Parts.{is_day, is_decimal}
use Rattle.edm_values.specs.Values.{where_true, decimal, decimal_of, day_from, day_of, dec, date}

-- a test holds in one way
true_once : (b : Bool) → IsProp (IsTrue b)
true_once b = hlevel Bool-set

-- where a test holds, what is made of that
pub where_true-holds : {X : Type 0} (b : Bool) (f : IsTrue b → X) (h : IsTrue b) → where_true b f ≡ Some (f h)
where_true-holds true f h = ap (λ k. Some (f k)) (true_once true refl h)
where_true-holds false f h = absurd (false≢true h)

-- where it fails, nothing
pub where_true-fails : {X : Type 0} (b : Bool) (f : IsTrue b → X) → b ≡ false → where_true b f ≡ None
where_true-fails true f h = absurd (false≢true (sym h))
where_true-fails false f h = refl

-- a decimal is the one of its parts
pub decimal_of_own : (d : Dec) → decimal_of d.mantissa d.scale ≡ Some d
decimal_of_own d = where_true-holds (is_decimal d.mantissa d.scale) (decimal d.mantissa d.scale) d.in_range

pub dec_is : (d : Dec) → dec d.mantissa d.scale ≡ Value.Dec d
dec_is d = ap (λ o. unwrap_or (option_map Value.Dec o) Value.Beyond) (decimal_of_own d)

-- a day is the one of its parts
pub day_of_own : (d : Day) → day_of (pos d.year) d.month d.day ≡ Some d
day_of_own d = where_true-holds (is_day d.year d.month d.day) (day_from d.year d.month d.day) d.in_range

pub date_is : (d : Day) → date d.year d.month d.day ≡ Value.Day d
date_is d = ap (λ o. unwrap_or (option_map Value.Day o) Value.Beyond) (day_of_own d)

-- decimals of the same parts are the same
pub same_decimal : (d e : Dec) → d.mantissa ≡ e.mantissa → d.scale ≡ e.scale → d ≡ e
same_decimal d e p q =
    let f : Option Dec → Dec = λ o. unwrap_or o d in
    ap f (sym (decimal_of_own d) ∙ (λ i. decimal_of (p i) (q i)) ∙ decimal_of_own e)

-- days of the same parts are the same
pub same_day : (d e : Day) → d.year ≡ e.year → d.month ≡ e.month → d.day ≡ e.day → d ≡ e
same_day d e p q r =
    let f : Option Day → Day = λ o. unwrap_or o d in
    ap f (sym (day_of_own d) ∙ (λ i. day_of (pos (p i)) (q i) (r i)) ∙ day_of_own e)
