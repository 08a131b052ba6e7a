-- Printed numbers and dates are texts of the grammar.
use Rattle.std.proofs.Common.{◌≡◌, refl, sym, ◌∙◌, ap, subst, ℕ, zero, suc, ◌+◌, ◌-◌, ◌^◌, ◌<◌, ◌≤◌, nat_le, true, false, ◌&&◌, List, [], ◌∷◌, ◌++◌, length, replicate, decimal, codes, arith, lit<, ℤ, pos, negsuc, int_le}
use Rattle.std.specs.Fmt.{signed_decimal}
use Rattle.std.specs.Str.Parse.{AllDigits, digits_value, digits_value_after}
use Rattle.std.proofs.lemmas.Bool.{leb-true}
use Rattle.std.proofs.lemmas.Fmt.{decimal_is_IsNumeral, length-decimal-le}
use Rattle.std.proofs.lemmas.List.{length-replicate, length-append}
use Rattle.edm_values.specs.Values.{integer_max}
use Rattle.edm_values.specs.Parts.{mantissa_max, scale_max, is_day}
use Rattle.apply_ast.specs.Trees.{is_int_literal, is_dec_literal}
use Rattle.edm_values.specs.Literals.{padded_decimal, decimal_text, day_text}
use Rattle.apply_ast.specs.Grammar.{digits_text, number_text, int_text, dec_text, digits_of_width, date_text}
use Rattle.edm_values.proofs.EachLemmas.{and-left, and-right}
use Rattle.edm_values.proofs.TextLaws.{decimal_parts, day_bounds}
use Rattle.apply_ast.proofs.Joining.{parts}

-- digits behind digits
all_digits-append : (xs ys : List ℕ) → AllDigits 10 xs → AllDigits 10 ys → AllDigits 10 (xs ++ ys)
all_digits-append [] ys a b = b
all_digits-append (x ∷ xs) ys a b = (a.0, all_digits-append xs ys a.1 b)

-- zeros in front
zeros_are_digits : (k : ℕ) → AllDigits 10 (replicate k 48)
zeros_are_digits zero = tt
zeros_are_digits (suc k) = (lit< tt, zeros_are_digits k)

zeros_count_nothing : (k : ℕ) (xs : List ℕ) → digits_value_after 10 0 (replicate k 48 ++ xs) ≡ digits_value_after 10 0 xs
zeros_count_nothing zero xs = refl
zeros_count_nothing (suc k) xs = zeros_count_nothing k xs

-- a number below 10 ^ k, with zeros in front up to k digits
pub padded_is : (k n : ℕ) → 0 < k → n < 10 ^ k → n < 2 ^ 64 → AllDigits 10 (padded_decimal k n) × (digits_value 10 (padded_decimal k n) ≡ n) × (length (padded_decimal k n) ≡ k)
padded_is k n some fits small =
    let d = decimal_is_IsNumeral n small in
    let long = length-decimal-le k n some fits small in (all_digits-append (replicate (k - length (decimal n)) 48) (decimal n) (zeros_are_digits (k - length (decimal n))) d.0.1, zeros_count_nothing (k - length (decimal n)) (decimal n) ∙ d.1, length-append (replicate (k - length (decimal n)) 48) (decimal n) ∙ whole (length (decimal n)) (length (replicate (k - length (decimal n)) 48)) long (length-replicate (k - length (decimal n)) 48))
  where
    whole : (a r : ℕ) → a ≤ k → r ≡ k - a → r + a ≡ k
    whole a r h e = omega arith

-- the first of two numbers within 64 bits
pub below_64 : (n : ℕ) → nat_le n integer_max ≡ true → n < 2 ^ 64
below_64 n h = let e : n ≤ integer_max = leb-true n integer_max h in omega (arith, e)

pub digits_printed : (n : ℕ) → n < 2 ^ 64 → digits_text n (decimal n)
digits_printed n h = decimal_is_IsNumeral n h

pub number_printed : (least most n : ℕ) → (nat_le least n && nat_le n most) ≡ true → n < 2 ^ 64 → number_text least most n (decimal n)
number_printed least most n b h = (b, digits_printed n h)

pub int_printed : (n : ℤ) → is_int_literal n ≡ true → int_text n (signed_decimal n)
int_printed (pos k) h =
    let small = and-right (nat_le 0 k) (nat_le k integer_max) h in
    (k, refl, number_printed 0 integer_max k h (below_64 k small))
int_printed (negsuc k) h = absurd (go h)
  where
    go : false ≡ true → ⊥
    go e = cc

numeral_padded : (k n : ℕ) → 0 < k → n < 10 ^ k → n < 2 ^ 64 → digits_of_width k n (padded_decimal k n)
numeral_padded k n some fits small =
    let p = padded_is k n some fits small in
    (((subst (λ l. 0 < l) (sym p.2) some, p.0), p.1), p.2)

pub dec_printed : (m : ℤ) (s : ℕ) → is_dec_literal m s ≡ true → dec_text m s (decimal_text m s)
dec_printed (pos k) zero h = absurd (go (and-right (int_le (pos 0) (pos k) && int_le (pos k) (pos mantissa_max)) (nat_le 1 0) (and-left (int_le (pos 0) (pos k) && int_le (pos k) (pos mantissa_max) && nat_le 1 0) (nat_le 0 scale_max) h)))
  where
    go : false ≡ true → ⊥
    go e = cc
dec_printed (pos k) (suc s) h =
    let high : nat_le (suc s) scale_max ≡ true = and-right (int_le (pos 0) (pos k) && int_le (pos k) (pos mantissa_max) && nat_le 1 (suc s)) (nat_le (suc s) scale_max) h in
    let small : nat_le k mantissa_max ≡ true = and-right (int_le (pos 0) (pos k)) (int_le (pos k) (pos mantissa_max))
    (and-left (int_le (pos 0) (pos k) && int_le (pos k) (pos mantissa_max)) (nat_le 1 (suc s)) (and-left (int_le (pos 0) (pos k) && int_le (pos k) (pos mantissa_max) && nat_le 1 (suc s)) (nat_le (suc s) scale_max) h)) in
    let most : k ≤ mantissa_max = leb-true k mantissa_max small in
    let x = decimal_parts k s (omega (arith, most)) in (x.0, x.1, x.2, (x.3, x.4), (subst (λ l. 0 < l) (sym x.6) (omega arith), x.5), x.6, ap (λ b. b && nat_le (digits_value 10 (x.0 ++ x.1)) mantissa_max) high ∙ ap (λ v. nat_le v mantissa_max) x.7 ∙ small, ap pos (sym x.7))
dec_printed (negsuc k) s h = absurd (go h)
  where
    go : (false && nat_le 1 s && nat_le s scale_max) ≡ true → ⊥
    go e = cc

pub day_printed : (y m d : ℕ) → is_day y m d ≡ true → date_text y m d (day_text y m d)
day_printed y m d h =
    let bounds = day_bounds y m d h in
    let most_y : y ≤ 9999 = bounds.0 in
    let most_m : m ≤ 12 = bounds.1 in
    let most_d : d ≤ 31 = bounds.2 in (h, (parts (padded_decimal 4 y) (codes "-" ++ (padded_decimal 2 m ++ (codes "-" ++ padded_decimal 2 d))) (numeral_padded 4 y (lit< tt) (omega (arith, most_y)) (omega (arith, most_y))) (parts (codes "-") (padded_decimal 2 m ++ (codes "-" ++ padded_decimal 2 d)) refl (parts (padded_decimal 2 m) (codes "-" ++ padded_decimal 2 d) (numeral_padded 2 m (lit< tt) (omega (arith, most_m)) (omega (arith, most_m))) (parts (codes "-") (padded_decimal 2 d) refl (numeral_padded 2 d (lit< tt) (omega (arith, most_d)) (omega (arith, most_d))) refl) refl) refl) refl))
