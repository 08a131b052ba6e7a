-- Operators and comparisons on values (URL Conventions 4.01, section 5.1.1), with this profile's ranges and its mark `Beyond`.
use Rattle.std.specs.Prelude.{ℕ, suc, ◌==◌, ◌+◌, ◌-◌, ◌^◌, ◌&&◌, ◌||◌, Bool, true, false, not, if◌then◌else◌, List, [], ◌∷◌, length, filter, max, fold, ℤ, pos, negsuc, ◌+ℤ◌, ◌-ℤ◌, ◌*ℤ◌, neg_ℤ, nat_eq, nat_lt, nat_le, chars, slice_get, Option, Some, None, option_map, unwrap_or, IsTrue, refl}
use Rattle.std.specs.List.{list_any, starts_with, ends_with}
use Rattle.std.specs.declared.cmp.Ordering.{Ordering}
use Rattle.std.specs.Ordering.{is_eq, is_ne, is_lt, is_gt, is_le, is_ge, nat_cmp, int_cmp, bool_cmp, ordering_then, then_cmp, on}
use Rattle.std.specs.Cmp.Lexicographic.{slice_cmp}
use Rattle.edm_values.specs.Lists.{has_part, places, sorted, at_places, shortest_prefix}
use Rattle.edm_values.specs.Parts.{is_day, is_decimal}
use Rattle.edm_values.specs.declared.Day.{Day}
use Rattle.edm_values.specs.declared.Dec.{Dec}
use Rattle.edm_values.specs.declared.Value.{Value}
use Rattle.edm_values.specs.declared.Seen.{Seen}

-- ---- ranges (CSDL JSON 4.01, sections 3.3 and 7.2, and this profile)

-- what is made of the fact that a test holds, where it does
abbrev pub where_true : {X : Type 0} (b : Bool) → (IsTrue b → X) → Option X
where_true true f = Some (f refl)
where_true false f = None

-- the decimal of a mantissa and a scale in range
abbrev pub decimal : (m : ℤ) (s : ℕ) → IsTrue (is_decimal m s) → Dec
decimal m s h = record { mantissa = m; scale = s; in_range = h }

-- the decimal of this mantissa and scale, where there is one
abbrev pub decimal_of : ℤ → ℕ → Option Dec
decimal_of m s = where_true (is_decimal m s) (decimal m s)

-- the day of a year, a month and a day of the month in range
abbrev pub day_from : (y m d : ℕ) → IsTrue (is_day y m d) → Day
day_from y m d h = record { year = y; month = m; day = d; in_range = h }

-- the day of this year, month and day of the month, where there is one
abbrev pub day_of : ℤ → ℕ → ℕ → Option Day
day_of (pos y) m d = where_true (is_day y m d) (day_from y m d)
day_of (negsuc y) m d = None

-- a decimal, or `Beyond` where it leaves its range
abbrev pub dec : ℤ → ℕ → Value
dec m s = unwrap_or (option_map Value.Dec (decimal_of m s)) Value.Beyond

-- a day, or `Beyond` where the calendar has none
abbrev pub date : ℕ → ℕ → ℕ → Value
date y m d = unwrap_or (option_map Value.Day (day_of (pos y) m d)) Value.Beyond

-- the greatest integer of 64 bits
abbrev pub integer_max : ℕ
integer_max = 9223372036854775807

-- the precision of a decimal that no property bounds
abbrev pub precision_max : ℕ
precision_max = 18

-- the integer has 64 bits
abbrev pub fits_integer : ℤ → Bool
fits_integer (pos n) = nat_lt n (2 ^ 63)
fits_integer (negsuc n) = nat_lt n (2 ^ 63)

-- the exact result of an operation, or `Beyond` where it leaves the range of its type
abbrev pub integer : ℤ → Value
integer z = if fits_integer z then Value.Int z else Value.Beyond

-- ---- numbers, exactly

-- a number is a mantissa and a scale
abbrev pub Number : Type 0
Number = ℤ × ℕ

-- the value is an integer
abbrev pub is_integer : Value → Bool
is_integer (Value.Int z) = true
is_integer _ = false

-- the number that a value is, if it is one
abbrev pub number_of : Value → Option Number
number_of (Value.Int z) = Some (z, 0)
number_of (Value.Dec d) = Some (d.mantissa, d.scale)
number_of _ = None

-- the mantissa of the same number at a scale that is no less than its own
abbrev pub mantissa_at : ℕ → Number → ℤ
mantissa_at s a = a.0 *ℤ pos (10 ^ (s - a.1))

-- two numbers compare by their mantissas, each times the power of ten of the other's scale
abbrev pub number_cmp : Number → Number → Ordering
number_cmp a b = int_cmp (a.0 *ℤ pos (10 ^ b.1)) (b.0 *ℤ pos (10 ^ a.1))

-- sum, difference and product without a range; the first two have the greater scale, the product the sum of both
abbrev pub number_plus : Number → Number → Number
number_plus a b = let s = max a.1 b.1 in (mantissa_at s a +ℤ mantissa_at s b, s)

-- the difference
abbrev pub number_minus : Number → Number → Number
number_minus a b = number_plus a (neg_ℤ b.0, b.1)

-- the product
abbrev pub number_times : Number → Number → Number
number_times a b = (a.0 *ℤ b.0, a.1 + b.1)

-- ---- Beyond and null before the operator

-- the value is `Beyond`
abbrev pub is_beyond : Value → Bool
is_beyond Value.Beyond = true
is_beyond _ = false

-- the value is null
abbrev pub is_null : Value → Bool
is_null Value.Null = true
is_null _ = false

-- an operator gives `Beyond` where an operand is `Beyond`
abbrev pub unless_beyond1 : (Value → Value) → Value → Value
unless_beyond1 op a = if is_beyond a then Value.Beyond else op a

-- the same for an operator of two operands
abbrev pub unless_beyond : (Value → Value → Value) → Value → Value → Value
unless_beyond op a b = if is_beyond a || is_beyond b then Value.Beyond else op a b

-- and then null where an operand is null (URL Conventions 4.01, section 5.1.1.2)
abbrev pub unless_null1 : (Value → Value) → Value → Value
unless_null1 op = unless_beyond1 (λ a. if is_null a then Value.Null else op a)

-- the same for an operator of two operands
abbrev pub unless_null : (Value → Value → Value) → Value → Value → Value
unless_null op = unless_beyond (λ a b. if is_null a || is_null b then Value.Null else op a b)

-- ---- arithmetic (URL Conventions 4.01, section 5.1.1.2)

-- an integer from two integers, and else a decimal; null where an operand is no number
abbrev pub as_decimal : (Number → Number → Number) → Value → Value → Value
as_decimal op a b = unwrap_or (option_map (λ x. unwrap_or (option_map (λ y. let r = op x y in dec r.0 r.1) (number_of b)) Value.Null) (number_of a)) Value.Null

-- the sum of two numbers
abbrev pub exact_plus : Value → Value → Value
exact_plus (Value.Int x) (Value.Int y) = integer (x +ℤ y)
exact_plus a b = as_decimal number_plus a b

-- the difference of two numbers
abbrev pub exact_minus : Value → Value → Value
exact_minus (Value.Int x) (Value.Int y) = integer (x -ℤ y)
exact_minus a b = as_decimal number_minus a b

-- a number with the other sign
abbrev pub exact_neg : Value → Value
exact_neg (Value.Int x) = integer (neg_ℤ x)
exact_neg (Value.Dec d) = dec (neg_ℤ d.mantissa) d.scale
exact_neg _ = Value.Null

-- the product of two numbers
abbrev pub exact_times : Value → Value → Value
exact_times (Value.Int x) (Value.Int y) = integer (x *ℤ y)
exact_times a b = as_decimal number_times a b

-- `add` (URL Conventions 4.01, section 5.1.1.2.1)
abbrev pub plus : Value → Value → Value
plus = unless_null exact_plus

-- `sub` (section 5.1.1.2.2)
abbrev pub minus : Value → Value → Value
minus = unless_null exact_minus

-- `mul` (section 5.1.1.2.4)
abbrev pub times : Value → Value → Value
times = unless_null exact_times

-- unary minus (section 5.1.1.2.3)
abbrev pub negated : Value → Value
negated = unless_null1 exact_neg

-- ---- comparison (URL Conventions 4.01, section 5.1.1.1)

-- by year, then month, then day
abbrev pub date_cmp : Day → Day → Ordering
date_cmp a b = ordering_then (nat_cmp a.year b.year) (ordering_then (nat_cmp a.month b.month) (nat_cmp a.day b.day))

-- the order of two numbers, two Booleans, two texts by their bytes, or two days; none beside null, `Beyond` or another kind
abbrev pub compared : Value → Value → Option Ordering
compared (Value.Int x) (Value.Int y) = Some (number_cmp (x, 0) (y, 0))
compared (Value.Int x) (Value.Dec b) = Some (number_cmp (x, 0) (b.mantissa, b.scale))
compared (Value.Dec a) (Value.Int y) = Some (number_cmp (a.mantissa, a.scale) (y, 0))
compared (Value.Dec a) (Value.Dec b) = Some (number_cmp (a.mantissa, a.scale) (b.mantissa, b.scale))
compared (Value.Bool a) (Value.Bool b) = Some (bool_cmp a b)
compared (Value.Text a) (Value.Text b) = Some (slice_cmp nat_cmp a b)
compared (Value.Day a) (Value.Day b) = Some (date_cmp a b)
compared _ _ = None

-- the value is a text
abbrev pub is_text : Value → Bool
is_text (Value.Text t) = true
is_text _ = false

-- the value is an integer or a decimal
abbrev pub is_number : Value → Bool
is_number (Value.Int z) = true
is_number (Value.Dec d) = true
is_number _ = false

-- two Booleans, two integers, two decimals of one scale, two texts or two days
abbrev pub are_of_one_kind : Value → Value → Bool
are_of_one_kind (Value.Bool a) (Value.Bool b) = true
are_of_one_kind (Value.Int x) (Value.Int y) = true
are_of_one_kind (Value.Dec a) (Value.Dec b) = a.scale == b.scale
are_of_one_kind (Value.Text a) (Value.Text b) = true
are_of_one_kind (Value.Day a) (Value.Day b) = true
are_of_one_kind _ _ = false

-- two numbers, or two values of one kind
abbrev pub are_comparable : Value → Value → Bool
are_comparable a b = is_number a && is_number b || are_of_one_kind a b

-- what a test says of two values that are not null; false where they do not compare
abbrev pub tested : (Ordering → Bool) → Value → Value → Value
tested test a b = Value.Bool (unwrap_or (option_map test (compared a b)) false)

-- `eq` (URL Conventions 4.01, section 5.1.1.1.1): null equals null alone
abbrev pub equal : Value → Value → Value
equal = unless_beyond (λ a b. if is_null a || is_null b then Value.Bool (is_null a && is_null b) else tested is_eq a b)

-- `ne` (section 5.1.1.1.2)
abbrev pub not_equal : Value → Value → Value
not_equal = unless_beyond (λ a b. if is_null a || is_null b then Value.Bool (not (is_null a && is_null b)) else tested is_ne a b)

-- `gt`, false beside null (section 5.1.1.1.3)
abbrev pub greater : Value → Value → Value
greater = unless_beyond (tested is_gt)

-- `ge`, false beside null (section 5.1.1.1.4)
abbrev pub greater_or_equal : Value → Value → Value
greater_or_equal = unless_beyond (tested is_ge)

-- `lt`, false beside null (section 5.1.1.1.5)
abbrev pub less : Value → Value → Value
less = unless_beyond (tested is_lt)

-- `le`, false beside null (section 5.1.1.1.6)
abbrev pub less_or_equal : Value → Value → Value
less_or_equal = unless_beyond (tested is_le)

-- ---- three-valued logic (URL Conventions 4.01, section 5.1.1.1)

-- the value is this Boolean
abbrev pub is_value : Bool → Value → Bool
is_value true (Value.Bool b) = b
is_value false (Value.Bool b) = not b
is_value _ _ = false

-- `and` (URL Conventions 4.01, section 5.1.1.1.7): false where one is false, true where both are true, and else null
abbrev pub both : Value → Value → Value
both = unless_beyond (λ a b. if is_value false a || is_value false b then Value.Bool false else (if is_value true a && is_value true b then Value.Bool true else Value.Null))

-- `or` (section 5.1.1.1.8): true where one is true, false where both are false, and else null
abbrev pub either : Value → Value → Value
either = unless_beyond (λ a b. if is_value true a || is_value true b then Value.Bool true else (if is_value false a && is_value false b then Value.Bool false else Value.Null))

-- `not` (section 5.1.1.1.9)
abbrev pub negation : Value → Value
negation = unless_beyond1 (λ a. if is_value true a then Value.Bool false else (if is_value false a then Value.Bool true else Value.Null))

-- ---- functions on texts and days (URL Conventions 4.01, sections 5.1.1.5 and 5.1.1.8)

-- a test of two texts
abbrev pub on_texts : (List ℕ → List ℕ → Bool) → Value → Value → Value
on_texts test (Value.Text a) (Value.Text b) = Value.Bool (test a b)
on_texts test _ _ = Value.Null

-- `startswith`: the second is a prefix of the first
abbrev pub startswith : Value → Value → Value
startswith = unless_null (on_texts (starts_with nat_eq))

-- `endswith`: the second is a suffix of the first
abbrev pub endswith : Value → Value → Value
endswith = unless_null (on_texts (ends_with nat_eq))

-- `contains`: the second is a part of the first
abbrev pub contains : Value → Value → Value
contains = unless_null (on_texts has_part)

-- the number of a text's Unicode scalar values
abbrev pub length_of : Value → Value
length_of (Value.Text a) = Value.Int (pos (length (chars a)))
length_of _ = Value.Null

-- `length`: how many Unicode scalar values a text has
abbrev pub text_length : Value → Value
text_length = unless_null1 length_of

-- a part of a day
abbrev pub part_of_day : (Day → ℕ) → Value → Value
part_of_day part (Value.Day d) = Value.Int (pos (part d))
part_of_day part _ = Value.Null

-- a part of a day, null beside null
abbrev pub day_part : (Day → ℕ) → Value → Value
day_part part = unless_null1 (part_of_day part)

-- `year`
abbrev pub year : Value → Value
year = day_part (λ d. d.year)

-- `month`
abbrev pub month : Value → Value
month = day_part (λ d. d.month)

-- `day`
abbrev pub day : Value → Value
day = day_part (λ d. d.day)

-- ---- the total order (for sorting, and for equality of keys)

-- null, Booleans, numbers, texts, days, `Beyond`
abbrev pub kind_place : Value → ℕ
kind_place Value.Null = 0
kind_place (Value.Bool b) = 1
kind_place (Value.Int z) = 2
kind_place (Value.Dec d) = 2
kind_place (Value.Text t) = 3
kind_place (Value.Day d) = 4
kind_place Value.Beyond = 5

-- the number that a value is, or 0
abbrev pub number_part : Value → Number
number_part v = unwrap_or (number_of v) (pos 0, 0)

-- among equal numbers an integer stands first, and then the decimals by scale
abbrev pub scale_place : Value → ℕ
scale_place (Value.Dec d) = suc d.scale
scale_place _ = 0

-- a Boolean as 0 or 1, a text as its bytes, a day as its year, month and day
abbrev pub parts_of : Value → List ℕ
parts_of (Value.Bool b) = (if b then 1 else 0) ∷ []
parts_of (Value.Text t) = t
parts_of (Value.Day d) = d.year ∷ d.month ∷ d.day ∷ []
parts_of _ = []

-- by kind, then by the exact number and its scale, then by the list
abbrev pub value_cmp : Value → Value → Ordering
value_cmp = then_cmp (on kind_place nat_cmp) (then_cmp (on number_part number_cmp) (then_cmp (on scale_place nat_cmp) (on parts_of (slice_cmp nat_cmp))))

-- the same value: null equals null, and decimals of two scales are two values
abbrev pub same_value : Value → Value → Bool
same_value a b = is_eq (value_cmp a b)

-- the first value stands before the second in this order
abbrev pub value_before : Value → Value → Bool
value_before a b = is_lt (value_cmp a b)

-- ---- the top and bottom of a list (Data Aggregation 4.0, section 3.3.1), with this profile's ties and nulls

-- the value at a place of a list
abbrev pub value_in : List Value → ℕ → Value
value_in vs k = unwrap_or (slice_get vs k) Value.Null

-- null ranks last, and else the greater value first, or for `bottom` the lesser
abbrev pub ranks_first : Bool → Value → Value → Bool
ranks_first bottom a b = not (is_null a) && (is_null b || (if bottom then value_before a b else value_before b a))

-- the places of a list by rank of their values, and then by place
abbrev pub ranked : Bool → List Value → List ℕ
ranked bottom vs = sorted (λ i j. ranks_first bottom (value_in vs i) (value_in vs j)) (places (length vs))

-- the exact sum of a list, to which null adds nothing
abbrev pub total : List Value → Number
total vs = fold (λ a v. unwrap_or (option_map (number_plus a) (number_of v)) a) (pos 0, 0) vs

-- the values are enough: there are this many
abbrev pub reaches_count : ℕ → List Value → Bool
reaches_count n vs = nat_le n (length vs)

-- their sum is at least this
abbrev pub reaches_sum : Number → List Value → Bool
reaches_sum v vs = is_ge (number_cmp (total vs) v)

-- 100 times their sum is at least p times the sum of all
abbrev pub reaches_percent : ℕ → List Value → List Value → Bool
reaches_percent p all vs = is_ge (number_cmp (number_times (pos 100, 0) (total vs)) (number_times (pos p, 0) (total all)))

-- the shortest part of the ranking whose values are enough, or all of it
abbrev pub taken : (List Value → Bool) → Bool → List Value → List ℕ
taken reaches bottom vs = shortest_prefix (λ ks. reaches (at_places vs ks)) (ranked bottom vs)

-- the taken places in ascending order; none is answered where a value is `Beyond`
abbrev pub top_places : (List Value → Bool) → Bool → List Value → Option (List ℕ)
top_places reaches bottom vs = if list_any is_beyond vs then None else Some (filter (λ i. list_any (nat_eq i) (taken reaches bottom vs)) (places (length vs)))

-- ---- values that borrow their texts

-- the value that is seen
abbrev pub seen_value : Seen → Value
seen_value Seen.Null = Value.Null
seen_value (Seen.Bool b) = Value.Bool b
seen_value (Seen.Int z) = Value.Int z
seen_value (Seen.Dec d) = Value.Dec d
seen_value (Seen.Text t) = Value.Text t.now
seen_value (Seen.Day d) = Value.Day d
seen_value Seen.Beyond = Value.Beyond
