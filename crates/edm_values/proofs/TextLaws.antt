-- Laws of literal texts: the plain text of a value reads as that value.
use Rattle.std.proofs.Common.{◌≡◌, ℕ, zero, suc, ◌+◌, ◌-◌, ◌^◌, ◌<◌, ◌≤◌, Bool, true, false, cond, not, ◌&&◌, ◌||◌, ◌==◌, List, [], ◌∷◌, ◌++◌, length, take, drop, replicate, refl, sym, ◌∙◌, ap, arith, pos, negsuc, ℤ, neg_ℤ, nat_abs, ltb, lit<, length-append}
use Rattle.std.specs.Prelude.{decimal, nat_lt, option_map, if◌then◌else◌}
use Rattle.std.specs.List.{list_all, list_any, position_or_len, before_first, after_first}
use Rattle.std.specs.Char.{is_digit, digit_value}
use Rattle.std.specs.Str.Parse.{AllDigits, digits_value, without_leading_sign, starts_with_minus}
use Rattle.std.proofs.lemmas.Str.Parse.{IsNumeralModel, digit_from_value}
use Rattle.std.proofs.lemmas.Fmt.{digits_decimal, digits_value-decimal, decimal_nonempty, length-decimal-le}
use Rattle.std.proofs.lemmas.Bool.{ltb-true, lt-ltb, ne_eqb}
use Rattle.std.proofs.lemmas.List.{append-nil, take-append-drop, drop_all, length-drop, length-take-le, length-replicate}
use Rattle.std.proofs.Math.Seq.{take-append_seam, take-length, drop-length}
use Rattle.std.proofs.Math.Numerals.{one-add, add-one}
use Rattle.edm_values.specs.declared.EdmType.{EdmType}
use Rattle.edm_values.specs.declared.Day.{Day}
use Rattle.edm_values.specs.declared.Dec.{Dec}
use Rattle.edm_values.specs.declared.Value.{Value}
use Rattle.edm_values.proofs.MadeValues.{decimal_of_own, day_of_own, mantissa_small}
use Rattle.edm_values.specs.Values.{decimal_of}
use Rattle.edm_values.specs.Values.{fits_integer}
use Rattle.edm_values.specs.Literals.{Literal, Written, value_or_past, has_literal, day_literal, day_in_range, decimal_text, literal, plain_text, is_digits, is_point, decimal_literal, decimal_in_range, is_decimal_text, mantissa_digits, whole_part, fraction_part, with_sign_of, with_point, padded_decimal}
use Rattle.std.specs.Prelude.{nat_le}
use Rattle.std.proofs.Common.{lit≤}
use Rattle.std.proofs.lemmas.Bool.{leb-true, and_parts, eqb-true, false≢true}
use Rattle.std.proofs.Math.Bool.{or-true}
use Rattle.jiff.specs.Words.{days_in_month, is_leap_year}
use Rattle.edm_values.specs.Parts.{is_day}

own : IsNumeralModel (AllDigits 10) (digits_value 10)
own = record { to = λ ds p. p; from = λ ds p. p; same = λ ds p. refl }

all_digits : (ds : List ℕ) → AllDigits 10 ds → list_all (λ b. is_digit b 10) ds ≡ true
all_digits [] p = refl
all_digits (d ∷ ds) p = λ i. lt-ltb (digit_value d) 10 p.0 i && all_digits ds p.1 i

-- digits begin with no sign
no_sign : (ds : List ℕ) → AllDigits 10 ds → without_leading_sign ds ≡ ds
no_sign [] p = refl
no_sign (d ∷ ds) p = let in_range = digit_from_value d p.0 in rw (ne_eqb d 45 (λ e. omega arith), ne_eqb d 43 (λ e. omega arith))

no_minus : (ds : List ℕ) → AllDigits 10 ds → starts_with_minus ds ≡ false
no_minus [] p = refl
no_minus (d ∷ ds) p = let in_range = digit_from_value d p.0 in ne_eqb d 45 (λ e. omega arith)

decimal_digits : (n : ℕ) → n < 2 ^ 64 → AllDigits 10 (decimal n)
decimal_digits n h = digits_decimal own n h

decimal_is_digits : (n : ℕ) → n < 2 ^ 64 → is_digits (decimal n) ≡ true
decimal_is_digits n h = λ i. lt-ltb 0 (length (decimal n)) (decimal_nonempty n h) i && all_digits (decimal n) (decimal_digits n h) i

-- an integer's text reads as the integer
pub integer_reads : (z : ℤ) → fits_integer z ≡ true → literal EdmType.Int (plain_text (Value.Int z)) ≡ Written (Value.Int z)
integer_reads (pos n) h =
    let small : n < 2 ^ 64 = let l = ltb-true n (2 ^ 63) h in omega arith in
    rw (no_sign (decimal n) (decimal_digits n small), decimal_is_digits n small, no_minus (decimal n) (decimal_digits n small), digits_value-decimal own n small, h)
integer_reads (negsuc n) h =
    let small : suc n < 2 ^ 64 = let l = ltb-true n (2 ^ 63) h in omega arith in
    rw (decimal_is_digits (suc n) small, digits_value-decimal own (suc n) small, h)

-- so does a text, and a Boolean's
pub text_reads : (t : List ℕ) → literal EdmType.Text (plain_text (Value.Text t)) ≡ Written (Value.Text t)
text_reads t = refl

pub boolean_reads : (b : Bool) → literal EdmType.Bool (plain_text (Value.Bool b)) ≡ Written (Value.Bool b)
boolean_reads true = refl
boolean_reads false = refl

-- ---- decimals

is_digits_true : (ds : List ℕ) → 0 < length ds → AllDigits 10 ds → is_digits ds ≡ true
is_digits_true ds h p = λ i. lt-ltb 0 (length ds) h i && all_digits ds p i

no_digit : (d : ℕ) → digit_value d < 10 → is_point d ≡ false
no_digit d h = let in_range = digit_from_value d h in ne_eqb d 46 (λ e. omega arith)

-- digits before a point: their length is the point's place
point_at : (whole fraction : List ℕ) → AllDigits 10 whole → position_or_len is_point (whole ++ 46 ∷ fraction) ≡ length whole
point_at [] fraction p = refl
point_at (d ∷ ds) fraction p = ap (λ b. cond (not b) (1 + position_or_len is_point (ds ++ 46 ∷ fraction)) 0) (no_digit d p.0) ∙ ap (λ n. 1 + n) (point_at ds fraction p.1) ∙ one-add (length ds)

no_point_at : (whole : List ℕ) → AllDigits 10 whole → position_or_len is_point whole ≡ length whole
no_point_at [] p = refl
no_point_at (d ∷ ds) p = ap (λ b. cond (not b) (1 + position_or_len is_point ds) 0) (no_digit d p.0) ∙ ap (λ n. 1 + n) (no_point_at ds p.1) ∙ one-add (length ds)

has_point : (whole fraction : List ℕ) → list_any is_point (whole ++ 46 ∷ fraction) ≡ true
has_point [] fraction = refl
has_point (d ∷ ds) fraction = ap (λ b. is_point d || b) (has_point ds fraction) ∙ or-true (is_point d)

has_no_point : (whole : List ℕ) → AllDigits 10 whole → list_any is_point whole ≡ false
has_no_point [] p = refl
has_no_point (d ∷ ds) p = λ i. no_digit d p.0 i || has_no_point ds p.1 i

drop_through : (whole fraction : List ℕ) (x : ℕ) → drop (length whole + 1) (whole ++ x ∷ fraction) ≡ fraction
drop_through whole fraction x = rw add-one (past whole)
  where
    past : (ds : List ℕ) → drop (suc (length ds)) (ds ++ x ∷ fraction) ≡ fraction
    past [] = refl
    past (d ∷ ds) = past ds

-- a text of a whole part, a point and a fraction as long as the scale
parts_read : (s p : ℕ) (t whole fraction : List ℕ) → without_leading_sign t ≡ whole ++ 46 ∷ fraction → list_any is_point t ≡ true → AllDigits 10 whole → 0 < length whole → AllDigits 10 fraction → 0 < length fraction → length fraction ≡ s → decimal_literal s p t ≡ decimal_in_range s p (with_sign_of t (digits_value 10 (whole ++ fraction)))
parts_read s p t whole fraction e point w nw f nf same = λ i. if is_text i then decimal_in_range s p (with_sign_of t (digits_value 10 (mantissa i))) else Literal.NoLiteral
  where
    whole_is : whole_part t ≡ whole
    whole_is = ap (before_first is_point) e ∙ ap (λ n. take n (whole ++ 46 ∷ fraction)) (point_at whole fraction w) ∙ take-append_seam whole (46 ∷ fraction)

    fraction_is : fraction_part t ≡ fraction
    fraction_is = ap (after_first is_point) e ∙ ap (λ n. drop (n + 1) (whole ++ 46 ∷ fraction)) (point_at whole fraction w) ∙ drop_through whole fraction 46

    no_rest : drop s fraction ≡ []
    no_rest = ap (λ n. drop n fraction) (sym same) ∙ drop-length fraction

    is_text : is_decimal_text s t ≡ true
    is_text =
        (λ i. (is_digits (whole_is i) && (not (point i) || is_digits (fraction_is i))) && list_all (λ d. d == 48) (drop s (fraction_is i)))
        ∙ (λ i. (is_digits_true whole nw w i && is_digits_true fraction nf f i) && list_all (λ d. d == 48) (no_rest i))

    kept : take s (fraction ++ replicate s 48) ≡ fraction
    kept = ap (λ n. take n (fraction ++ replicate s 48)) (sym same) ∙ take-append_seam fraction (replicate s 48)

    mantissa : mantissa_digits s t ≡ whole ++ fraction
    mantissa = (λ i. whole_is i ++ take s (fraction_is i ++ replicate s 48)) ∙ ap (λ ds. whole ++ ds) kept

-- a text of digits alone, at scale 0
whole_reads : (p : ℕ) (t whole : List ℕ) → without_leading_sign t ≡ whole → list_any is_point t ≡ false → AllDigits 10 whole → 0 < length whole → decimal_literal 0 p t ≡ decimal_in_range 0 p (with_sign_of t (digits_value 10 whole))
whole_reads p t whole e point w nw = λ i. if is_text i then decimal_in_range 0 p (with_sign_of t (digits_value 10 (mantissa i))) else Literal.NoLiteral
  where
    whole_is : whole_part t ≡ whole
    whole_is = ap (before_first is_point) e ∙ ap (λ n. take n whole) (no_point_at whole w) ∙ take-length whole

    fraction_is : fraction_part t ≡ []
    fraction_is = ap (after_first is_point) e ∙ ap (λ n. drop (n + 1) whole) (no_point_at whole w) ∙ drop_all (length whole + 1) whole (omega arith)

    is_text : is_decimal_text 0 t ≡ true
    is_text =
        (λ i. (is_digits (whole_is i) && (not (point i) || is_digits (fraction_is i))) && list_all (λ d. d == 48) (fraction_is i))
        ∙ (λ i. (is_digits_true whole nw w i && true) && true)

    mantissa : mantissa_digits 0 t ≡ whole
    mantissa = (λ i. whole_is i ++ take 0 (fraction_is i ++ replicate 0 48)) ∙ append-nil whole

-- ---- padded digits

zeros_digits : (k : ℕ) (ds : List ℕ) → AllDigits 10 ds → AllDigits 10 (replicate k 48 ++ ds)
zeros_digits zero ds p = p
zeros_digits (suc k) ds p = (lit< tt, zeros_digits k ds p)

zeros_value : (k : ℕ) (ds : List ℕ) → digits_value 10 (replicate k 48 ++ ds) ≡ digits_value 10 ds
zeros_value zero ds = refl
zeros_value (suc k) ds = zeros_value k ds

padded_length : (w n : ℕ) → w ≤ length (padded_decimal w n)
padded_length w n = rw (length-append (replicate (w - length (decimal n)) 48) (decimal n), length-replicate {A = ℕ} (w - length (decimal n)) 48) (omega arith)

take_digits : (k : ℕ) (ds : List ℕ) → AllDigits 10 ds → AllDigits 10 (take k ds)
take_digits zero ds p = tt
take_digits (suc k) [] p = tt
take_digits (suc k) (d ∷ ds) p = (p.0, take_digits k ds p.1)

drop_digits : (k : ℕ) (ds : List ℕ) → AllDigits 10 ds → AllDigits 10 (drop k ds)
drop_digits zero ds p = p
drop_digits (suc k) [] p = tt
drop_digits (suc k) (d ∷ ds) p = drop_digits k ds p.1

-- what begins with a digit begins with no sign
no_sign_front : (ds rest : List ℕ) → AllDigits 10 ds → 0 < length ds → without_leading_sign (ds ++ rest) ≡ ds ++ rest
no_sign_front [] rest p h = absurd (omega arith)
no_sign_front (d ∷ ds) rest p h = let in_range = digit_from_value d p.0 in rw (ne_eqb d 45 (λ e. omega arith), ne_eqb d 43 (λ e. omega arith))

no_minus_front : (ds rest : List ℕ) → AllDigits 10 ds → 0 < length ds → starts_with_minus (ds ++ rest) ≡ false
no_minus_front [] rest p h = absurd (omega arith)
no_minus_front (d ∷ ds) rest p h = let in_range = digit_from_value d p.0 in ne_eqb d 45 (λ e. omega arith)

module _ (s n : ℕ) (small : n < 2 ^ 64) where
  abbrev ds : List ℕ
  ds = padded_decimal (suc s) n

  long : suc s ≤ length ds
  long = padded_length (suc s) n

  are_digits : AllDigits 10 ds
  are_digits = zeros_digits (suc s - length (decimal n)) (decimal n) (decimal_digits n small)

  value_is : digits_value 10 ds ≡ n
  value_is = zeros_value (suc s - length (decimal n)) (decimal n) ∙ digits_value-decimal own n small

  abbrev front : List ℕ
  front = take (length ds - s) ds

  front_nonempty : 0 < length front
  front_nonempty = let h = long in let le : length ds - s ≤ length ds = omega arith in rw (length-take-le (length ds - s) ds le) (omega arith)

-- an integer's digits, with a point before the last s of them, read as the mantissa
with_point_reads : (s p n : ℕ) (t : List ℕ) → n < 2 ^ 64 → without_leading_sign t ≡ with_point s (padded_decimal (suc s) n) → list_any is_point t ≡ list_any is_point (with_point s (padded_decimal (suc s) n))
    → decimal_literal s p t ≡ decimal_in_range s p (with_sign_of t n)
with_point_reads zero p n t small e point =
    let all = ds 0 n small in
    let h = long 0 n small in
    let shown : with_point 0 all ≡ all = append-nil (take (length all - 0) all) ∙ (let k : length all - 0 ≡ length all = omega arith in ap (λ k. take k all) k) ∙ take-length all in
    whole_reads p t all (e ∙ shown) (point ∙ ap (list_any is_point) shown ∙ has_no_point all (are_digits 0 n small)) (are_digits 0 n small) (omega arith)
    ∙ ap (λ v. decimal_in_range 0 p (with_sign_of t v)) (value_is 0 n small)
with_point_reads (suc s) p n t small e point =
    let all = ds (suc s) n small in
    let h = long (suc s) n small in
    let whole = front (suc s) n small in
    let fraction = drop (length all - suc s) all in
    let shown : with_point (suc s) all ≡ whole ++ 46 ∷ fraction = ap (λ b. whole ++ cond b [] (46 ∷ fraction)) (ne_eqb (suc s) 0 (λ q. omega arith)) in
    let as_long : length fraction ≡ suc s = rw (length-drop (length all - suc s) all) (omega arith) in
    parts_read (suc s) p t whole fraction (e ∙ shown) (point ∙ ap (list_any is_point) shown ∙ has_point whole fraction)
    (take_digits (length all - suc s) all (are_digits (suc s) n small)) (front_nonempty (suc s) n small)
    (drop_digits (length all - suc s) all (are_digits (suc s) n small)) (rw as_long (omega arith)) as_long
    ∙ ap (λ ds. decimal_in_range (suc s) p (with_sign_of t (digits_value 10 ds))) (take-append-drop (length all - suc s) all)
    ∙ ap (λ v. decimal_in_range (suc s) p (with_sign_of t v)) (value_is (suc s) n small)

not_negative : (n : ℕ) → ltb n 0 ≡ false
not_negative n = elim (ltb n 0) as (λ b. (b ≡ true → n < 0) → b ≡ false) [ true ↦ λ f. let h = f refl in absurd (omega arith) | false ↦ λ f. refl ] (ltb-true n 0)

-- the shown text begins with no sign
shown_sign : (s n : ℕ) → n < 2 ^ 64 → (without_leading_sign (with_point s (padded_decimal (suc s) n)) ≡ with_point s (padded_decimal (suc s) n)) × (starts_with_minus (with_point s (padded_decimal (suc s) n)) ≡ false)
shown_sign s n small = (
  no_sign_front (front s n small) _ (take_digits (length (ds s n small) - s) (ds s n small) (are_digits s n small)) (front_nonempty s n small),
  no_minus_front (front s n small) _ (take_digits (length (ds s n small) - s) (ds s n small) (are_digits s n small)) (front_nonempty s n small),
)

-- a decimal's text reads as the decimal, where it has no more digits than the precision
mantissa_reads : (m : ℤ) (s p : ℕ) → nat_abs m < 2 ^ 64 → nat_lt (nat_abs m) (10 ^ p) ≡ true → literal (EdmType.Dec s p) (decimal_text m s) ≡ value_or_past (option_map Value.Dec (decimal_of m s))
mantissa_reads (pos n) s p small h =
    let signed = shown_sign s n small in
    ap (λ b. decimal_literal s p (cond b (45 ∷ []) [] ++ with_point s (padded_decimal (suc s) n))) (not_negative n)
    ∙ with_point_reads s p n (with_point s (padded_decimal (suc s) n)) small signed.0 refl
    ∙ ap (λ b. decimal_in_range s p (cond b (neg_ℤ (pos n)) (pos n))) signed.1
    ∙ ap (λ b. cond b (value_or_past (option_map Value.Dec (decimal_of (pos n) s))) Literal.PastRange) h
mantissa_reads (negsuc n) s p small h =
    with_point_reads s p (suc n) (45 ∷ with_point s (padded_decimal (suc s) (suc n))) small refl refl
    ∙ ap (λ b. cond b (value_or_past (option_map Value.Dec (decimal_of (negsuc n) s))) Literal.PastRange) h

pub decimal_reads : (d : Dec) (p : ℕ) → nat_lt (nat_abs d.mantissa) (10 ^ p) ≡ true → literal (EdmType.Dec d.scale p) (plain_text (Value.Dec d)) ≡ Written (Value.Dec d)
decimal_reads d p h = mantissa_reads d.mantissa d.scale p (mantissa_small d) h ∙ ap (λ o. value_or_past (option_map Value.Dec o)) (decimal_of_own d)

-- the text of a decimal that is not negative and has a digit after its point: digits, a point, and as many digits as the scale, all of which together are the mantissa
pub decimal_parts : (k s : ℕ) → k < 2 ^ 64 → (a b : List ℕ) × (decimal_text (pos k) (suc s) ≡ a ++ 46 ∷ b) × (0 < length a) × AllDigits 10 a × AllDigits 10 b × (length b ≡ suc s) × (digits_value 10 (a ++ b) ≡ k)
decimal_parts k s small =
    let all = ds (suc s) k small in
    let h = long (suc s) k small in
    let whole = front (suc s) k small in
    let fraction = drop (length all - suc s) all in (
      whole,
      fraction,
      ap (λ b. cond b (45 ∷ []) [] ++ with_point (suc s) all) (not_negative k) ∙ ap (λ b. whole ++ cond b [] (46 ∷ fraction)) (ne_eqb (suc s) 0 (λ q. omega arith)),
      front_nonempty (suc s) k small,
      take_digits (length all - suc s) all (are_digits (suc s) k small),
      drop_digits (length all - suc s) all (are_digits (suc s) k small),
      rw (length-drop (length all - suc s) all) (omega arith),
      ap (digits_value 10) (take-append-drop (length all - suc s) all) ∙ value_is (suc s) k small,
    )

-- a month has at most 31 days
choice_most : (b : Bool) (x y n : ℕ) → x ≤ n → y ≤ n → (if b then x else y) ≤ n
choice_most true x y n h k = h
choice_most false x y n h k = k

days_most : (y : ℤ) (m : ℕ) → days_in_month y m ≤ 31
days_most y m = choice_most (m == 2) (if is_leap_year y then 29 else 28) (if (m == 4) || (m == 6) || (m == 9) || (m == 11) then 30 else 31) 31
    (choice_most (is_leap_year y) 29 28 31 (lit≤ tt) (lit≤ tt)) (choice_most ((m == 4) || (m == 6) || (m == 9) || (m == 11)) 30 31 31 (lit≤ tt) (lit≤ tt))

-- the parts of a day have at most four and two digits
pub day_bounds : (y m d : ℕ) → is_day y m d ≡ true → (y ≤ 9999) × (m ≤ 12) × (d ≤ 31)
day_bounds y m d h =
    let last = and_parts (nat_le 1 y && nat_le y 9999 && nat_le 1 m && nat_le m 12 && nat_le 1 d) (nat_le d (days_in_month (pos y) m)) h in
    let before = and_parts (nat_le 1 y && nat_le y 9999 && nat_le 1 m && nat_le m 12) (nat_le 1 d) last.0 in
    let month = and_parts (nat_le 1 y && nat_le y 9999 && nat_le 1 m) (nat_le m 12) before.0 in
    let year = and_parts (nat_le 1 y && nat_le y 9999) (nat_le 1 m) month.0 in
    let most : d ≤ days_in_month (pos y) m = leb-true d (days_in_month (pos y) m) last.1 in
    let few : days_in_month (pos y) m ≤ 31 = days_most (pos y) m in
    (leb-true y 9999 (and_parts (nat_le 1 y) (nat_le y 9999) year.0).1, leb-true m 12 month.1, omega (arith, most, few))

-- ---- days

-- four digits, two digits and two digits, with hyphens between, read as the day of these numbers
day_parts : (a b c : List ℕ) → length a ≡ 4 → length b ≡ 2 → length c ≡ 2 → is_digits a ≡ true → is_digits b ≡ true → is_digits c ≡ true → day_literal (a ++ 45 ∷ (b ++ 45 ∷ c)) ≡ day_in_range (digits_value 10 a) (digits_value 10 b) (digits_value 10 c)
day_parts (a0 ∷ a1 ∷ a2 ∷ a3 ∷ []) (b0 ∷ b1 ∷ []) (c0 ∷ c1 ∷ []) i j k p q r =
    let a : List ℕ = a0 ∷ a1 ∷ a2 ∷ a3 ∷ [] in
    let b : List ℕ = b0 ∷ b1 ∷ [] in
    let c : List ℕ = c0 ∷ c1 ∷ [] in
    λ e. cond (true && p e && true && q e && true && r e) (day_in_range (digits_value 10 a) (digits_value 10 b) (digits_value 10 c)) Literal.NoLiteral
day_parts _ _ _ i j k p q r = absurd (omega arith)

padded_width : (w n : ℕ) → length (decimal n) ≤ w → length (padded_decimal w n) ≡ w
padded_width w n h = rw (length-append (replicate (w - length (decimal n)) 48) (decimal n), length-replicate {A = ℕ} (w - length (decimal n)) 48) (omega arith)

-- a day's text reads as the day
pub day_reads : (d : Day) → literal EdmType.Day (plain_text (Value.Day d)) ≡ Written (Value.Day d)
day_reads d =
    let bounds = day_bounds d.year d.month d.day d.in_range in
    let y : d.year < 2 ^ 64 = omega (arith, bounds.0) in
    let m : d.month < 2 ^ 64 = omega (arith, bounds.1) in
    let n : d.day < 2 ^ 64 = omega (arith, bounds.2) in
    let year = ds 3 d.year y in
    let month = ds 1 d.month m in
    let day = ds 1 d.day n in
    let years = padded_width 4 d.year (length-decimal-le 4 d.year (lit< tt) (omega (arith, bounds.0)) y) in
    let months = padded_width 2 d.month (length-decimal-le 2 d.month (lit< tt) (omega (arith, bounds.1)) m) in
    let days = padded_width 2 d.day (length-decimal-le 2 d.day (lit< tt) (omega (arith, bounds.2)) n) in
    day_parts year month day years months days (is_digits_true year (omega (arith, years)) (are_digits 3 d.year y)) (is_digits_true month (omega (arith, months)) (are_digits 1 d.month m)) (is_digits_true day (omega (arith, days)) (are_digits 1 d.day n))
    ∙ (λ i. day_in_range (value_is 3 d.year y i) (value_is 1 d.month m i) (value_is 1 d.day n i))
    ∙ ap (λ o. value_or_past (option_map Value.Day o)) (day_of_own d)

-- ---- every type

-- the plain text of a value of the type reads as the value
pub printed_reads : (kind : EdmType) (v : Value) → has_literal kind v ≡ true → literal kind (plain_text v) ≡ Written v
printed_reads EdmType.Bool (Value.Bool b) h = boolean_reads b
printed_reads EdmType.Int (Value.Int z) h = integer_reads z h
printed_reads (EdmType.Dec s p) (Value.Dec d) h =
    let both = and_parts (d.scale == s) (nat_lt (nat_abs d.mantissa) (10 ^ p)) h in
    ap (λ k. literal (EdmType.Dec k p) (plain_text (Value.Dec d))) (sym (eqb-true d.scale s both.0)) ∙ decimal_reads d p both.1
printed_reads EdmType.Text (Value.Text t) h = text_reads t
printed_reads EdmType.Day (Value.Day d) h = day_reads d
printed_reads EdmType.Bool Value.Null h = absurd (false≢true h)
printed_reads EdmType.Int Value.Null h = absurd (false≢true h)
printed_reads (EdmType.Dec s p) Value.Null h = absurd (false≢true h)
printed_reads EdmType.Text Value.Null h = absurd (false≢true h)
printed_reads EdmType.Day Value.Null h = absurd (false≢true h)
printed_reads _ _ h = absurd (false≢true h)
