-- Which decimals and dates there are (CSDL JSON 4.01, section 3.3), in this profile's ranges.
use Rattle.std.specs.Prelude.{ℕ, ℤ, ◌&&◌, Bool, pos, nat_abs, nat_le}
use Rattle.jiff.specs.Words.{days_in_month}

-- a mantissa has at most 18 digits
abbrev pub mantissa_max : ℕ
mantissa_max = 999999999999999999

-- the greatest scale
abbrev pub scale_max : ℕ
scale_max = 9

-- there is a decimal of this mantissa and scale
abbrev pub is_decimal : ℤ → ℕ → Bool
is_decimal m s = nat_le (nat_abs m) mantissa_max && nat_le s scale_max

-- a date of the Gregorian calendar from 0001-01-01 to 9999-12-31
abbrev pub is_day : ℕ → ℕ → ℕ → Bool
is_day y m d = nat_le 1 y && nat_le y 9999 && nat_le 1 m && nat_le m 12 && nat_le 1 d && nat_le d (days_in_month (pos y) m)
