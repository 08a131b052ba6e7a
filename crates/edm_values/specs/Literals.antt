-- The texts of primitive values (JSON Format 4.01, section 7.1; OData ABNF 4.01, section 7), in this profile's form: no exponent, and a decimal of fixed scale.
use Rattle.std.specs.Prelude.{ℕ, suc, IsTrue, ◌-◌, ◌^◌, ◌==◌, ◌&&◌, ◌||◌, Bool, true, false, not, if◌then◌else◌, List, [], ◌∷◌, ◌++◌, length, take, drop, replicate, slice_range, slice_index, ℤ, pos, neg_ℤ, nat_abs, int_lt, nat_lt, nat_le, codes, decimal, Option, Some, None, option_map, Result, Ok, Err}
use Rattle.std.specs.List.{list_any, list_all, before_first, after_first}
use Rattle.std.specs.Char.{is_digit}
use Rattle.std.specs.Str.Parse.{digits_value, without_leading_sign, starts_with_minus}
use Rattle.std.specs.Fmt.{signed_decimal, sign_text}
use Rattle.edm_values.specs.declared.EdmType.{EdmType}
use Rattle.edm_values.specs.Lists.{same_text}
use Rattle.edm_values.specs.Parts.{is_day, mantissa_max}
use Rattle.edm_values.specs.declared.ReadRefused.{ReadRefused}
use Rattle.edm_values.specs.declared.Value.{Value}
use Rattle.edm_values.specs.Values.{fits_integer, decimal_of, day_of}

-- what a text is, read as a literal of a type: a value; no literal of the type; or one past the type's range or precision
pub data Literal : Type 0 where
  Written : Value → Literal
  NoLiteral : Literal
  PastRange : Literal

-- one or more decimal digits
abbrev pub is_digits : List ℕ → Bool
is_digits ds = nat_lt 0 (length ds) && list_all (λ b. is_digit b 10) ds

-- ---- numbers

-- the byte is a point
abbrev pub is_point : ℕ → Bool
is_point b = b == 46

-- the number n with the sign of the text
abbrev pub with_sign_of : List ℕ → ℕ → ℤ
with_sign_of t n = if starts_with_minus t then neg_ℤ (pos n) else pos n

-- the number as an integer, if it has 64 bits
abbrev pub integer_in_range : ℤ → Literal
integer_in_range z = if fits_integer z then Written (Value.Int z) else PastRange

-- a value that there is, or past the range
abbrev pub value_or_past : Option Value → Literal
value_or_past (Some v) = Written v
value_or_past None = PastRange

-- the decimal of this mantissa, if it has at most `precision` digits
abbrev pub decimal_in_range : ℕ → ℕ → ℤ → Literal
decimal_in_range scale precision m = if nat_lt (nat_abs m) (10 ^ precision) then value_or_past (option_map Value.Dec (decimal_of m scale)) else PastRange

-- a sign or none, and digits
abbrev pub integer_literal : List ℕ → Literal
integer_literal t = if is_digits (without_leading_sign t) then integer_in_range (with_sign_of t (digits_value 10 (without_leading_sign t))) else NoLiteral

-- the parts of a decimal text before and after its first point
abbrev pub whole_part : List ℕ → List ℕ
whole_part t = before_first is_point (without_leading_sign t)

-- the part of a decimal text after its first point, or nothing
abbrev pub fraction_part : List ℕ → List ℕ
fraction_part t = after_first is_point (without_leading_sign t)

-- a sign or none, digits, and possibly a point and digits, of which those past the scale are zeros
abbrev pub is_decimal_text : ℕ → List ℕ → Bool
is_decimal_text scale t = is_digits (whole_part t) && (not (list_any is_point t) || is_digits (fraction_part t)) && list_all (λ d. d == 48) (drop scale (fraction_part t))

-- the digits of the mantissa at the scale
abbrev pub mantissa_digits : ℕ → List ℕ → List ℕ
mantissa_digits scale t = whole_part t ++ take scale (fraction_part t ++ replicate scale 48)

-- what a text is as a decimal
abbrev pub decimal_literal : ℕ → ℕ → List ℕ → Literal
decimal_literal scale precision t = if is_decimal_text scale t then decimal_in_range scale precision (with_sign_of t (digits_value 10 (mantissa_digits scale t))) else NoLiteral

-- ---- days

-- `YYYY-MM-DD`
abbrev pub is_day_text : List ℕ → Bool
is_day_text t = length t == 10 && is_digits (slice_range t 0 4) && slice_index t 4 == 45 && is_digits (slice_range t 5 7) && slice_index t 7 == 45 && is_digits (slice_range t 8 10)

-- the day, if there is such a date
abbrev pub day_in_range : ℕ → ℕ → ℕ → Literal
day_in_range y m d = value_or_past (option_map Value.Day (day_of (pos y) m d))

-- what a text is as a day
abbrev pub day_literal : List ℕ → Literal
day_literal t = if is_day_text t then day_in_range (digits_value 10 (slice_range t 0 4)) (digits_value 10 (slice_range t 5 7)) (digits_value 10 (slice_range t 8 10)) else NoLiteral

-- ---- every type

-- `true` or `false`
abbrev pub boolean_literal : List ℕ → Literal
boolean_literal t = if same_text t (codes "true") then Written (Value.Bool true) else (if same_text t (codes "false") then Written (Value.Bool false) else NoLiteral)

-- what a text is as a literal of the type
abbrev pub literal : EdmType → List ℕ → Literal
literal EdmType.Bool t = boolean_literal t
literal EdmType.Int t = integer_literal t
literal (EdmType.Dec scale precision) t = decimal_literal scale precision t
literal EdmType.Text t = Written (Value.Text t)
literal EdmType.Day t = day_literal t

-- what reading answers to a literal
abbrev pub answer : Literal → Result Value ReadRefused
answer (Written v) = Ok v
answer NoLiteral = Err ReadRefused.Shape
answer PastRange = Err ReadRefused.Range

-- ---- plain texts

-- the most digits of a number of 64 bits
abbrev pub digits_max : ℕ
digits_max = 20

-- the decimal digits of n, with zeros in front up to this many
abbrev pub padded_decimal : ℕ → ℕ → List ℕ
padded_decimal width n = replicate (width - length (decimal n)) 48 ++ decimal n

-- the text with a point before its last s bytes, and without one where s is 0
abbrev pub with_point : ℕ → List ℕ → List ℕ
with_point s ds = take (length ds - s) ds ++ (if s == 0 then [] else 46 ∷ drop (length ds - s) ds)

-- a minus below zero, at least one digit before the point, and exactly as many after it as the scale says
abbrev pub decimal_text : ℤ → ℕ → List ℕ
decimal_text m s = sign_text (int_lt m (pos 0)) ++ with_point s (padded_decimal (suc s) (nat_abs m))

-- a day as `YYYY-MM-DD`
abbrev pub day_text : ℕ → ℕ → ℕ → List ℕ
day_text y m d = padded_decimal 4 y ++ 45 ∷ (padded_decimal 2 m ++ 45 ∷ padded_decimal 2 d)

-- the plain text of a value that is neither null nor `Beyond`
abbrev pub plain_text : Value → List ℕ
plain_text (Value.Bool b) = if b then codes "true" else codes "false"
plain_text (Value.Int z) = signed_decimal z
plain_text (Value.Dec d) = decimal_text d.mantissa d.scale
plain_text (Value.Text t) = t
plain_text (Value.Day d) = day_text d.year d.month d.day
plain_text _ = []

-- the value is of the type: null and `Beyond` are of every type, a decimal of each precision; an integer may have any size
abbrev pub is_of_kind : EdmType → Value → Bool
is_of_kind kind Value.Null = true
is_of_kind kind Value.Beyond = true
is_of_kind EdmType.Bool (Value.Bool b) = true
is_of_kind EdmType.Int (Value.Int z) = true
is_of_kind (EdmType.Dec scale precision) (Value.Dec d) = d.scale == scale && nat_le (nat_abs d.mantissa) mantissa_max
is_of_kind EdmType.Text (Value.Text t) = true
is_of_kind EdmType.Day (Value.Day d) = is_day d.year d.month d.day
is_of_kind _ _ = false

-- the value has a literal of the type: it is one of its values, and its number keeps the type's range and precision
abbrev pub has_literal : EdmType → Value → Bool
has_literal EdmType.Bool (Value.Bool b) = true
has_literal EdmType.Int (Value.Int z) = fits_integer z
has_literal (EdmType.Dec scale precision) (Value.Dec d) = d.scale == scale && nat_lt (nat_abs d.mantissa) (10 ^ precision)
has_literal EdmType.Text (Value.Text t) = true
has_literal EdmType.Day (Value.Day d) = true
has_literal _ _ = false

-- two types are of one kind: they are equal but for the precision
abbrev pub same_kind : EdmType → EdmType → Bool
same_kind EdmType.Bool EdmType.Bool = true
same_kind EdmType.Int EdmType.Int = true
same_kind (EdmType.Dec s p) (EdmType.Dec s' p') = s == s'
same_kind EdmType.Text EdmType.Text = true
same_kind EdmType.Day EdmType.Day = true
same_kind _ _ = false

-- the types of numbers
abbrev pub is_number_kind : EdmType → Bool
is_number_kind EdmType.Int = true
is_number_kind (EdmType.Dec scale precision) = true
is_number_kind _ = false

-- the values are of one type of numbers
abbrev pub AreNumbers : List Value → Type 0
AreNumbers vs = (k : EdmType) × IsTrue (is_number_kind k) × IsTrue (list_all (is_of_kind k) vs)

-- the type of Booleans
abbrev pub is_boolean_kind : EdmType → Bool
is_boolean_kind EdmType.Bool = true
is_boolean_kind _ = false
