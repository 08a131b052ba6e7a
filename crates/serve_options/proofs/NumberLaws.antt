-- Digits whose number has more than 64 bits.
use Rattle.std.proofs.Common.{◌≡◌, ℕ, ◌^◌, ◌<◌, true, List, length, arith, inl, inr}
use Rattle.std.specs.Prelude.{None, Err, nat_lt}
use Rattle.std.specs.Str.Parse.{AllDigits, ParsesUnsigned, digits_value}
use Rattle.std.proofs.lemmas.Bool.{cases_Bool, ltb-true, ltb-false}
use Rattle.std.proofs.lemmas.Bool.Decides.{nat_tests}
use Rattle.std.proofs.lemmas.Str.Parse.{IsNumeralModel, numerals_by_value, tells_digits, parse_digits}
use Rattle.edm_values.specs.Literals.{is_digits}
use Rattle.edm_values.proofs.DigitLaws.{numeral_from}
use Rattle.serve_options.specs.Options.{number_within}

own : IsNumeralModel (AllDigits 10) (digits_value 10)
own = numerals_by_value (AllDigits 10) tells_digits

-- a number past a limit
number_past : (least most : ℕ) (t : List ℕ) → most < digits_value 10 t → None ≡ number_within least most t
number_past least most t past = grind (arith, nat_tests)

-- digits that are no number of 64 bits are past every limit of 64 bits
pub number_refused : {E : Type 0} (least most : ℕ) (t : List ℕ) (e : E) → is_digits t ≡ true → most < 2 ^ 64 → ParsesUnsigned 64 10 t (Err e) → None ≡ number_within least most t
number_refused {E} least most t e digits small h =
    let numeral = numeral_from t digits in
    let refused : ¬ ((0 < length t) × (digits_value 10 t < 2 ^ 64)) = parse_digits own 64 t (Err e) h numeral.1 in
    elim (cases_Bool (nat_lt (digits_value 10 t) (2 ^ 64))) [
      | inl fits ↦ absurd (refused (numeral.0, ltb-true (digits_value 10 t) (2 ^ 64) fits))
      | inr past ↦ let over = ltb-false (digits_value 10 t) (2 ^ 64) past in number_past least most t (omega arith)
    ]
