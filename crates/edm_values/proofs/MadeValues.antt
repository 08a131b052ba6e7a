-- The parts of decimals and days, and what is made of parts.
use Rattle.std.proofs.Common.{◌≡◌, ℕ, ◌≤◌, ◌<◌, ◌^◌, true, refl, sym, ◌∙◌, subst, arith, ℤ, pos, negsuc, nat_abs, inl, inr, ◌&&◌}
use Rattle.std.specs.Prelude.{Some, None, nat_le}
use Rattle.std.proofs.lemmas.Bool.{leb-true, and_parts, cases_Bool}
use Rattle.std.proofs.lemmas.Int.{ints}
use Rattle.jiff.specs.Words.{IsDate, days_in_month}
use Rattle.edm_values.specs.declared.Day.{Day}
use Rattle.edm_values.specs.declared.Dec.{Dec}
use Rattle.edm_values.specs.Parts.{is_day, mantissa_max, scale_max}
use Rattle.edm_values.specs.Values.{decimal_of, day_from, day_of}
pub use Rattle.edm_values.specs.PartLaws.{where_true-holds, where_true-fails, decimal_of_own, dec_is, day_of_own, date_is, same_decimal, same_day}

-- the parts of a decimal are in range
pub mantissa_limit : (d : Dec) → nat_abs d.mantissa ≤ mantissa_max
mantissa_limit d = leb-true (nat_abs d.mantissa) mantissa_max (and_parts (nat_le (nat_abs d.mantissa) mantissa_max) (nat_le d.scale scale_max) d.in_range).0

pub mantissa_small : (d : Dec) → nat_abs d.mantissa < 2 ^ 64
mantissa_small d = let h = mantissa_limit d in omega arith

-- a decimal of these parts is what is made of them
pub decimal_from_parts : (d : Dec) (m : ℤ) (s : ℕ) → d.mantissa ≡ m → d.scale ≡ s → Some d ≡ decimal_of m s
decimal_from_parts d m s p q = sym (decimal_of_own d) ∙ (λ i. decimal_of (p i) (q i))

-- and a day
pub day_from_parts : (e : Day) (y : ℤ) (m d : ℕ) → pos e.year ≡ y → e.month ≡ m → e.day ≡ d → Some e ≡ day_of y m d
day_from_parts e y m d p q r = sym (day_of_own e) ∙ (λ i. day_of (p i) (q i) (r i))

-- a day of the definition is a date of the calendar
pub is_calendar_date : (y m d : ℕ) → is_day y m d ≡ true → IsDate (pos y) (pos m) (pos d)
is_calendar_date y m d h =
    let last = and_parts (nat_le 1 y && nat_le y 9999 && nat_le 1 m && nat_le m 12 && nat_le 1 d) (nat_le d (days_in_month (pos y) m)) h in
    let days = and_parts (nat_le 1 y && nat_le y 9999 && nat_le 1 m && nat_le m 12) (nat_le 1 d) last.0 in
    let months = and_parts (nat_le 1 y && nat_le y 9999 && nat_le 1 m) (nat_le m 12) days.0 in
    let month = and_parts (nat_le 1 y && nat_le y 9999) (nat_le 1 m) months.0 in
    let year = and_parts (nat_le 1 y) (nat_le y 9999) month.0 in
    let year_most : y ≤ 9999 = leb-true y 9999 year.1 in
    let month_least : 1 ≤ m = leb-true 1 m month.1 in
    let month_most : m ≤ 12 = leb-true m 12 months.1 in
    let day_least : 1 ≤ d = leb-true 1 d days.1 in
    let day_most : d ≤ days_in_month (pos y) m = leb-true d (days_in_month (pos y) m) last.1 in
    ((omega (arith, ints), omega (arith, ints)), (omega (arith, ints), omega (arith, ints)), (omega (arith, ints), omega (arith, ints)))

-- a date under other names of its parts
pub IsDate_along : {y y' m m' d d' : ℤ} → y ≡ y' → m ≡ m' → d ≡ d' → IsDate y m d → IsDate y' m' d'
IsDate_along {y} {y'} {m} {m'} {d} {d'} p q r h = subst (λ z. IsDate y' m' z) r (subst (λ z. IsDate y' z d) q (subst (λ z. IsDate z m d) p h))

-- where the calendar has no such date, there is no day
pub no_day : (y : ℤ) (m d : ℕ) → ¬ (IsDate y (pos m) (pos d)) → None ≡ day_of y m d
no_day (pos y) m d h =
    elim (cases_Bool (is_day y m d)) [
      | inl t ↦ absurd (h (is_calendar_date y m d t))
      | inr f ↦ sym (where_true-fails (is_day y m d) (day_from y m d) f)
    ]
no_day (negsuc y) m d h = refl
