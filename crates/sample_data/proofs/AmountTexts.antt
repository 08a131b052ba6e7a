-- The texts of amounts.
use Rattle.std.proofs.Common.{◌≡◌, ℕ, suc, ◌<◌, ◌^◌, ◌∙◌, ap, List, [], ◌∷◌, sym, subst, arith, lit<, ℤ, pos, Some, inl, inr}
use Rattle.std.specs.Str.{IsAscii, IsUtf8}
use Rattle.std.specs.Str.Parse.{AllDigits}
use Rattle.std.proofs.lemmas.Str.{IsAscii-append, IsUtf8-from_ascii}
use Rattle.std.proofs.lemmas.Str.Ascii.{IsAscii-nil, IsAscii-cons}
use Rattle.std.proofs.lemmas.Str.Parse.{digit_from_value}
use Rattle.std.proofs.lemmas.Bool.{cases_Bool}
use Rattle.edm_values.specs.declared.Dec.{Dec}
use Rattle.edm_values.specs.Literals.{decimal_text}
use Rattle.edm_values.specs.Parts.{is_decimal}
use Rattle.edm_values.specs.PartLaws.{where_true-holds, where_true-fails}
use Rattle.edm_values.specs.Values.{decimal, decimal_of}
use Rattle.edm_values.proofs.OptionFacts.{some_value, none_or}
use Rattle.edm_values.proofs.TextLaws.{decimal_parts}

digits_are_ascii : (ds : List ℕ) → AllDigits 10 ds → IsAscii ds
digits_are_ascii [] h = IsAscii-nil
digits_are_ascii (d ∷ ds) h = let range = digit_from_value d h.0 in IsAscii-cons d ds (omega (arith, range)) (digits_are_ascii ds h.1)

-- the text of an amount with digits after its point
pub amount_is_utf8 : (m s : ℕ) → m < 2 ^ 64 → IsUtf8 (decimal_text (pos m) (suc s))
amount_is_utf8 m s small =
    let p = decimal_parts m s small in
    IsUtf8-from_ascii (decimal_text (pos m) (suc s)) (subst IsAscii (sym p.2) (IsAscii-append p.0 (46 ∷ p.1) (digits_are_ascii p.0 p.4) (IsAscii-cons 46 p.1 (lit< tt) (digits_are_ascii p.1 p.5))))

-- the parts of a decimal that there is
pub decimal_has : (d : Dec) (m : ℤ) (s : ℕ) → Some d ≡ decimal_of m s → (d.mantissa ≡ m) × (d.scale ≡ s)
decimal_has d m s is =
    elim (cases_Bool (is_decimal m s)) as (λ b. (d.mantissa ≡ m) × (d.scale ≡ s)) [
      | inl h ↦ (let same : d ≡ decimal m s h = some_value (is ∙ where_true-holds (is_decimal m s) (decimal m s) h) in (ap (λ e. e.mantissa) same, ap (λ e. e.scale) same))
      | inr h ↦ none_or d (sym (is ∙ where_true-fails (is_decimal m s) (decimal m s) h))
    ]

-- its text
pub text_is : (d : Dec) (m s : ℕ) → Some d ≡ decimal_of (pos m) s → decimal_text d.mantissa d.scale ≡ decimal_text (pos m) s
text_is d m s is = let parts = decimal_has d (pos m) s is in λ i. decimal_text (parts.0 i) (parts.1 i)
