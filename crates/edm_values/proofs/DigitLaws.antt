-- The numbers that digits write.
use Rattle.std.proofs.Common.{◌≡◌, ℕ, zero, suc, ◌+◌, ◌-◌, ◌*◌, ◌^◌, ◌<◌, ◌≤◌, Bool, true, false, ◌&&◌, List, [], ◌∷◌, ◌++◌, length, take, drop, get_or, replicate, refl, sym, ◌∙◌, ap, arith, add-one, ℤ, pos, negsuc, cond, not, lit<, inl, inr}
use Rattle.std.specs.Prelude.{Some, None, Err, nat_lt, FitsSigned, unwrap_or, ◌||◌, ◌==◌, slice_index, slice_range}
use Rattle.std.specs.List.{list_all, list_any, position, position_or_len}
use Rattle.std.specs.Char.{is_digit, digit_value}
use Rattle.std.specs.Int.{IsInRange}
use Rattle.std.specs.Str.Parse.{AllDigits, IsNumeral, digits_value, digits_value_after, without_leading_sign, starts_with_minus, signed_digits_value}
use Rattle.std.proofs.lemmas.Str.Parse.{digit_from_value}
use Rattle.std.proofs.lemmas.Bool.{ltb-true, ltb-false, and_parts, or_parts, cases_Bool}
use Rattle.std.proofs.lemmas.List.{drop_all}
use Rattle.std.proofs.Math.Numerals.{one-add}
use Rattle.std.proofs.lemmas.List.Sums.{prefix_len-le-length}
use Rattle.std.proofs.lemmas.Bool.Decides.{nat_tests}
use Rattle.std.proofs.Math.Nat.{pow-zero, pow-suc, pow-le-pow_right, le-mul_of_pos_right}
use Rattle.edm_values.specs.declared.ReadRefused.{ReadRefused}
use Rattle.edm_values.specs.declared.Value.{Value}
use Rattle.edm_values.specs.Literals.{Literal, Written, PastRange, NoLiteral, is_day_text, answer, is_digits, is_point, is_decimal_text, whole_part, fraction_part, mantissa_digits, integer_literal}
use Rattle.edm_values.specs.OrderLaws.{power_positive}
use Rattle.edm_values.specs.Numerals.{below}
use Rattle.edm_values.specs.Values.{fits_integer, precision_max}
use Rattle.edm_values.specs.Parts.{mantissa_max}
use Rattle.std.proofs.Common.{w64}
use Rattle.edm_values.proofs.ListFacts.{all-take}

-- digits behind digits
pub value_append : (n : ℕ) (xs ys : List ℕ) → digits_value_after 10 n (xs ++ ys) ≡ digits_value_after 10 (digits_value_after 10 n xs) ys
value_append n [] ys = refl
value_append n (x ∷ xs) ys = value_append (n * 10 + digit_value x) xs ys

-- zeros behind digits
pub value_zeros : (n k : ℕ) → digits_value_after 10 n (replicate k 48) ≡ n * 10 ^ k
value_zeros n zero = rw pow-zero (omega arith)
value_zeros n (suc k) = value_zeros (n * 10 + 0) k ∙ (rw pow-suc (omega arith))

-- more digits write no less
pub value_grows : (n : ℕ) (xs : List ℕ) → n ≤ digits_value_after 10 n xs
value_grows n [] = omega arith
value_grows n (x ∷ xs) = let h = value_grows (n * 10 + digit_value x) xs in omega arith

pub value_front : (n : ℕ) (xs : List ℕ) (i : ℕ) → digits_value_after 10 n (take i xs) ≤ digits_value_after 10 n xs
value_front n xs zero = value_grows n xs
value_front n [] (suc i) = omega arith
value_front n (x ∷ xs) (suc i) = value_front (n * 10 + digit_value x) xs i

-- one digit more
pub value_more : (n : ℕ) (xs : List ℕ) (i : ℕ) → i < length xs → digits_value_after 10 n (take (suc i) xs) ≡ digits_value_after 10 n (take i xs) * 10 + digit_value (get_or xs i 0)
value_more n [] i h = absurd (omega arith)
value_more n (x ∷ xs) zero h = refl
value_more n (x ∷ xs) (suc i) h = value_more (n * 10 + digit_value x) xs i (omega arith)

-- what a digit is worth
pub digit_at : (xs : List ℕ) (i : ℕ) → list_all (λ b. is_digit b 10) xs ≡ true → i < length xs → IsInRange 48 57 (get_or xs i 0)
digit_at [] i h k = absurd (omega arith)
digit_at (x ∷ xs) zero h k = digit_from_value x (ltb-true (digit_value x) 10 (and_parts (is_digit x 10) (list_all (λ b. is_digit b 10) xs) h).0)
digit_at (x ∷ xs) (suc i) h k = digit_at xs i (and_parts (is_digit x 10) (list_all (λ b. is_digit b 10) xs) h).1 (omega arith)

pub digit_worth : (c : ℕ) → IsInRange 48 57 c → digit_value c + 48 ≡ c
digit_worth c h = grind (arith, nat_tests)

-- the next digit behind the number so far
pub value_step : (n : ℕ) (xs : List ℕ) (i m r : ℕ) → list_all (λ b. is_digit b 10) xs ≡ true → i < length xs → m ≡ digits_value_after 10 n (take i xs) → r ≡ get_or xs i 0 - 48 → m * 10 + r ≡ digits_value_after 10 n (take (i + 1) xs)
value_step n xs i m r h k e d =
    let more = value_more n xs i k in
    let worth = digit_worth (get_or xs i 0) (digit_at xs i h k) in
    rw add-one (omega (arith, more, worth, e, d))

-- a text that is padded with zeros to a length
pub take_zeros : (s m : ℕ) → s ≤ m → take {A = ℕ} s (replicate m 48) ≡ replicate s 48
take_zeros zero m h = refl
take_zeros (suc s) zero h = absurd (omega arith)
take_zeros (suc s) (suc m) h = ap (λ xs. 48 ∷ xs) (take_zeros s m (omega arith))

pub padded : (s m : ℕ) (xs : List ℕ) → s ≤ m → take s (xs ++ replicate m 48) ≡ take s xs ++ replicate (s - length (take s xs)) 48
padded zero m xs h = refl
padded (suc s) m [] h = let e : suc s - 0 ≡ suc s = omega arith in take_zeros (suc s) m h ∙ ap (λ k. replicate k 48) (sym e)
padded (suc s) m (x ∷ xs) h =
    let e : suc s - suc (length (take s xs)) ≡ s - length (take s xs) = omega arith in
    ap (λ ys. x ∷ ys) (padded s m xs (omega arith)) ∙ ap (λ k. x ∷ (take s xs ++ replicate k 48)) (sym e)

-- the test of digits, as `parse` says it
all_digits_from : (ds : List ℕ) → list_all (λ b. is_digit b 10) ds ≡ true → AllDigits 10 ds
all_digits_from [] h = tt
all_digits_from (d ∷ ds) h =
    let both = and_parts (is_digit d 10) (list_all (λ b. is_digit b 10) ds) h in (ltb-true (digit_value d) 10 both.0, all_digits_from ds both.1)

pub numeral_from : (ds : List ℕ) → is_digits ds ≡ true → IsNumeral 10 ds
numeral_from ds h =
    let both = and_parts (nat_lt 0 (length ds)) (list_all (λ b. is_digit b 10) ds) h in (ltb-true 0 (length ds) both.0, all_digits_from ds both.1)

pub fits_from : (z : ℤ) → fits_integer z ≡ true → FitsSigned w64 z
fits_from (pos n) h = record { sfits = ltb-true n (2 ^ 63) h }
fits_from (negsuc n) h = record { sfits = ltb-true n (2 ^ 63) h }

-- a number that is not below its limit
pub below-fails : (limit n : ℕ) → limit ≤ n → None ≡ below limit n
below-fails limit n h = grind (arith, nat_tests)

-- the place of the first element that passes
pub found_place : {X : Type 0} (p : X → Bool) (xs : List X) (k : ℕ) → Some k ≡ position p xs → k ≡ position_or_len p xs
found_place p xs k h = chosen (nat_lt (position_or_len p xs) (length xs)) h
  where
    chosen : (b : Bool) → Some k ≡ cond b (Some (position_or_len p xs)) None → k ≡ position_or_len p xs
    chosen true e = ap (λ o. unwrap_or o 0) e
    chosen false e = cc

pub no_place : {X : Type 0} (p : X → Bool) (xs : List X) → None ≡ position p xs → length xs ≡ position_or_len p xs
no_place p xs h = chosen (nat_lt (position_or_len p xs) (length xs)) refl h
  where
    chosen : (b : Bool) → nat_lt (position_or_len p xs) (length xs) ≡ b → None ≡ cond b (Some (position_or_len p xs)) None → length xs ≡ position_or_len p xs
    chosen true e g = cc
    chosen false e g = let most = prefix_len-le-length (λ x. not (p x)) xs in let over = ltb-false (position_or_len p xs) (length xs) e in omega arith

-- a precision below the greatest, and any other
pub precision_below : (p : ℕ) → p < precision_max → 10 ^ p ≤ mantissa_max + 1
precision_below p h = let le : p ≤ precision_max = omega arith in pow-le-pow_right (lit< tt) le

pub precision_past : (p : ℕ) → precision_max ≤ p → mantissa_max + 1 ≤ 10 ^ p
precision_past p h = pow-le-pow_right (lit< tt) h

pub below-none : (limit n : ℕ) → None ≡ below limit n → limit ≤ n
below-none limit n h =
    elim (cases_Bool (nat_lt n limit)) as (λ b. limit ≤ n) [
      | inl t ↦ absurd (none_some (h ∙ ap (λ b. cond b (Some n) None) t))
      | inr f ↦ ltb-false n limit f
    ]
  where
    none_some : None ≡ Some n → ⊥
    none_some e = cc

pub below-some : (limit n k : ℕ) → Some k ≡ below limit n → (k ≡ n) × (n < limit)
below-some limit n k h =
    elim (cases_Bool (nat_lt n limit)) as (λ b. (k ≡ n) × (n < limit)) [
      | inl t ↦ (ap (λ o. unwrap_or o 0) (h ∙ ap (λ b. cond b (Some n) None) t), ltb-true n limit t)
      | inr f ↦ absurd (some_none (h ∙ ap (λ b. cond b (Some n) None) f))
    ]
  where
    some_none : Some k ≡ None → ⊥
    some_none e = cc

-- ---- the literal of an integer that `parse` refuses

pub integer_past : (t : List ℕ) → is_digits (without_leading_sign t) ≡ true → ¬ (IsNumeral 10 (without_leading_sign t) × FitsSigned w64 (signed_digits_value 10 t)) → Err ReadRefused.Range ≡ answer (integer_literal t)
integer_past t h refused =
    elim (cases_Bool (fits_integer (signed_digits_value 10 t))) as (λ b. Err ReadRefused.Range ≡ answer (integer_literal t)) [
      | inl fits ↦ absurd (refused (numeral_from (without_leading_sign t) h, fits_from (signed_digits_value 10 t) fits))
      | inr past ↦ sym (λ i. answer (cond (h i) (cond (past i) (Written (Value.Int (signed_digits_value 10 t))) PastRange) NoLiteral))
    ]

-- ---- the parts of a decimal text

any_drop : {X : Type 0} (p : X → Bool) (k : ℕ) (xs : List X) → list_any p xs ≡ false → list_any p (drop k xs) ≡ false
any_drop p zero xs h = h
any_drop p (suc k) [] h = h
any_drop p (suc k) (x ∷ xs) h = any_drop p k xs (or_parts (p x) (list_any p xs) h).1

none_place : {X : Type 0} (p : X → Bool) (xs : List X) → list_any p xs ≡ false → position_or_len p xs ≡ length xs
none_place p [] h = refl
none_place p (x ∷ xs) h =
    let both = or_parts (p x) (list_any p xs) h in
    ap (λ b. cond (not b) (1 + position_or_len p xs) 0) both.0 ∙ ap (λ n. 1 + n) (none_place p xs both.1) ∙ one-add (length xs)

no_point_unsigned : (t : List ℕ) → list_any is_point t ≡ false → list_any is_point (without_leading_sign t) ≡ false
no_point_unsigned t h = chosen (starts_with_minus t) (slice_index t 0 == 43)
  where
    chosen : (b c : Bool) → list_any is_point (cond b (drop 1 t) (drop (cond c 1 0) t)) ≡ false
    chosen true c = any_drop is_point 1 t h
    chosen false true = any_drop is_point 1 t h
    chosen false false = h

no_fraction : (t : List ℕ) → list_any is_point t ≡ false → fraction_part t ≡ []
no_fraction t h =
    let none = none_place is_point (without_leading_sign t) (no_point_unsigned t h) in
    drop_all (position_or_len is_point (without_leading_sign t) + 1) (without_leading_sign t) (omega arith)

-- the digits after the point of a decimal text are digits, if it has a point or not
pub fraction_digits : (s : ℕ) (t : List ℕ) → is_decimal_text s t ≡ true → list_all (λ b. is_digit b 10) (fraction_part t) ≡ true
fraction_digits s t h =
    let all = and_parts (is_digits (whole_part t) && (not (list_any is_point t) || is_digits (fraction_part t))) (list_all (λ d. d == 48) (drop s (fraction_part t))) h in
    let parts = and_parts (is_digits (whole_part t)) (not (list_any is_point t) || is_digits (fraction_part t)) all.0 in
    chosen (list_any is_point t) refl parts.1
  where
    chosen : (b : Bool) → list_any is_point t ≡ b → (not b || is_digits (fraction_part t)) ≡ true → list_all (λ d. is_digit d 10) (fraction_part t) ≡ true
    chosen true e g = (and_parts (nat_lt 0 (length (fraction_part t))) (list_all (λ d. is_digit d 10) (fraction_part t)) g).1
    chosen false e g = ap (list_all (λ d. is_digit d 10)) (no_fraction t e)

pub kept_digits : (s : ℕ) (t : List ℕ) → is_decimal_text s t ≡ true → list_all (λ b. is_digit b 10) (take s (fraction_part t)) ≡ true
kept_digits s t h = all-take (λ b. is_digit b 10) s (fraction_part t) (fraction_digits s t h)

-- the mantissa: the digits before the point, those after it up to the scale, and zeros
pub mantissa_value : (s : ℕ) (t : List ℕ) → digits_value 10 (mantissa_digits s t)
    ≡ digits_value_after 10 (digits_value 10 (whole_part t)) (take s (fraction_part t)) * 10 ^ (s - length (take s (fraction_part t)))
mantissa_value s t =
    ap (λ ds. digits_value 10 (whole_part t ++ ds)) (padded s s (fraction_part t) (omega arith))
    ∙ value_append 0 (whole_part t) (take s (fraction_part t) ++ replicate (s - length (take s (fraction_part t))) 48)
    ∙ value_append (digits_value 10 (whole_part t)) (take s (fraction_part t)) (replicate (s - length (take s (fraction_part t))) 48)
    ∙ value_zeros (digits_value_after 10 (digits_value 10 (whole_part t)) (take s (fraction_part t))) (s - length (take s (fraction_part t)))

-- it is no less than the digits before it
pub whole_least : (s : ℕ) (t : List ℕ) → digits_value 10 (whole_part t) ≤ digits_value 10 (mantissa_digits s t)
whole_least s t = let e = value_append 0 (whole_part t) (take s (fraction_part t ++ replicate s 48)) in
    let g = value_grows (digits_value 10 (whole_part t)) (take s (fraction_part t ++ replicate s 48)) in rw e g

pub kept_least : (s : ℕ) (t : List ℕ) → digits_value_after 10 (digits_value 10 (whole_part t)) (take s (fraction_part t)) ≤ digits_value 10 (mantissa_digits s t)
kept_least s t = rw (mantissa_value s t) (le-mul_of_pos_right (digits_value_after 10 (digits_value 10 (whole_part t)) (take s (fraction_part t))) (power_positive (s - length (take s (fraction_part t)))))

-- ---- the mantissa read part by part, below a limit

pub size_past_whole : (limit s : ℕ) (t w : List ℕ) → w ≡ whole_part t → None ≡ below limit (digits_value 10 w) → None ≡ below limit (digits_value 10 (mantissa_digits s t))
size_past_whole limit s t w e h =
    let past = below-none limit (digits_value 10 w) h in
    let least = whole_least s t in
    let same = ap (digits_value 10) e in
    below-fails limit (digits_value 10 (mantissa_digits s t)) (omega (arith, past, least, same))

pub size_past_kept : (limit s whole : ℕ) (t w f : List ℕ) → w ≡ whole_part t → f ≡ take s (fraction_part t) → Some whole ≡ below limit (digits_value 10 w) → None ≡ below limit (digits_value_after 10 whole f)
    → None ≡ below limit (digits_value 10 (mantissa_digits s t))
size_past_kept limit s whole t w f e g k h =
    let past = below-none limit (digits_value_after 10 whole f) h in
    let first = (below-some limit (digits_value 10 w) whole k).0 ∙ ap (digits_value 10) e in
    let least = kept_least s t in
    let same : digits_value_after 10 whole f ≡ digits_value_after 10 (digits_value 10 (whole_part t)) (take s (fraction_part t)) = λ i. digits_value_after 10 (first i) (g i) in
    below-fails limit (digits_value 10 (mantissa_digits s t)) (omega (arith, past, least, same))

pub size_whole : (limit s whole kept : ℕ) (t w f : List ℕ) → w ≡ whole_part t → f ≡ take s (fraction_part t) → Some whole ≡ below limit (digits_value 10 w) → Some kept ≡ below limit (digits_value_after 10 whole f)
    → below limit (kept * 10 ^ (s - length f)) ≡ below limit (digits_value 10 (mantissa_digits s t))
size_whole limit s whole kept t w f e g k h =
    let first = (below-some limit (digits_value 10 w) whole k).0 ∙ ap (digits_value 10) e in
    let second = (below-some limit (digits_value_after 10 whole f) kept h).0 in
    let same : digits_value_after 10 whole f ≡ digits_value_after 10 (digits_value 10 (whole_part t)) (take s (fraction_part t)) = λ i. digits_value_after 10 (first i) (g i) in
    (λ i. below limit ((second ∙ same) i * 10 ^ (s - length (g i)))) ∙ ap (below limit) (sym (mantissa_value s t))

-- ---- days

-- the last two bytes of a day's text are digits
pub day_digits : (t : List ℕ) → is_day_text t ≡ true → list_all (λ b. is_digit b 10) (slice_range t 8 10) ≡ true
day_digits t h =
    let last = and_parts (length t == 10 && is_digits (slice_range t 0 4) && slice_index t 4 == 45 && is_digits (slice_range t 5 7) && slice_index t 7 == 45) (is_digits (slice_range t 8 10)) h in
    (and_parts (nat_lt 0 (length (slice_range t 8 10))) (list_all (λ b. is_digit b 10) (slice_range t 8 10)) last.1).1

-- reading has no want of memory but a text's
pub never_memory : (l : Literal) → answer l ≡ Err ReadRefused.Memory → ⊥
never_memory (Written v) h = cc
never_memory NoLiteral h = cc
never_memory PastRange h = cc
