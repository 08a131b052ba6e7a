-- Texts of which a JSON string has every byte as it is, among them the texts of numbers and days.
use Rattle.std.proofs.Common.{◌≡◌, ℕ, zero, suc, ◌+◌, ◌-◌, ◌/◌, ◌%◌, ◌<◌, ◌≤◌, Bool, true, false, ◌&&◌, cond, not, List, [], ◌∷◌, ◌++◌, length, take, drop, replicate, refl, ap, arith, ℤ, pos, negsuc}
use Rattle.std.specs.Prelude.{◌==◌, nat_le, decimal, nat_abs, int_lt, IsTrue}
use Rattle.std.specs.List.{list_all}
use Rattle.std.specs.Fmt.{digits, digits_onto, digit_glyph, signed_decimal, sign_text}
use Rattle.std.proofs.lemmas.Bool.{and_parts, and_from, ne_eqb, leb-true, le-ltb, le-leb, lt-ltb, not-true, false≢true}
use Rattle.json.specs.Print.{escape, escape_byte}
use Rattle.edm_values.specs.declared.Value.{Value}
use Rattle.edm_values.specs.Literals.{padded_decimal, with_point, decimal_text, day_text, plain_text}
use Rattle.edm_values.proofs.ListFacts.{all-append, all-take, all-drop}
use Rattle.json_render.specs.PlainTexts.{is_plain, is_quoted_kind}
use Rattle.json_render.specs.RowTexts.{text_json, value_text}

-- ---- bytes that need no escape

plain_byte : (b : ℕ) → is_plain b ≡ true → escape_byte b ≡ b ∷ []
unfolding escape_byte
plain_byte b h =
    let p = and_parts (nat_le 32 b && not (b == 34)) (not (b == 92)) h in
    let q = and_parts (nat_le 32 b) (not (b == 34)) p.0 in
    let low : 32 ≤ b = leb-true 32 b q.0 in
    let quote = not-true (b == 34) q.1 in
    let slash = not-true (b == 92) p.1 in
    rw (quote, slash, ne_eqb b 8 (λ e. omega arith), ne_eqb b 12 (λ e. omega arith), ne_eqb b 10 (λ e. omega arith), ne_eqb b 13 (λ e. omega arith), ne_eqb b 9 (λ e. omega arith), le-ltb b 32 low) refl

-- a text of such bytes is its own escape
pub plain_escape : (t : List ℕ) → list_all is_plain t ≡ true → escape t ≡ t
plain_escape [] h = refl
plain_escape (b ∷ t) h =
    let both = and_parts (is_plain b) (list_all is_plain t) h in
    (λ i. plain_byte b both.0 i ++ plain_escape t both.1 i)

-- it stands in quotes as it is
pub plain_json : (t : List ℕ) → list_all is_plain t ≡ true → text_json t ≡ 34 ∷ (t ++ 34 ∷ [])
plain_json t h = ap (λ s. 34 ∷ (s ++ 34 ∷ [])) (plain_escape t h)

-- ---- the texts of numbers and days

plain_glyph : (n : ℕ) → is_plain (digit_glyph false (n % 10)) ≡ true
plain_glyph n =
    let small : n % 10 < 10 = omega arith in
    rw (lt-ltb (n % 10) 10 small, le-leb 32 (48 + n % 10) (omega arith), ne_eqb (48 + n % 10) 34 (λ e. omega arith), ne_eqb (48 + n % 10) 92 (λ e. omega arith)) refl

either_plain : (b : Bool) (xs ys : List ℕ) → list_all is_plain xs ≡ true → list_all is_plain ys ≡ true → list_all is_plain (cond b xs ys) ≡ true
either_plain true xs ys h g = h
either_plain false xs ys h g = g

plain_onto : (k n : ℕ) (acc : List ℕ) → list_all is_plain acc ≡ true → list_all is_plain (digits_onto k 10 false n acc) ≡ true
plain_onto zero n acc h = h
plain_onto (suc k) n acc h =
    let more = and_from (is_plain (digit_glyph false (n % 10))) (list_all is_plain acc) (plain_glyph n) h in
    either_plain (n / 10 == 0) (digit_glyph false (n % 10) ∷ acc) (digits_onto k 10 false (n / 10) (digit_glyph false (n % 10) ∷ acc)) more (plain_onto k (n / 10) (digit_glyph false (n % 10) ∷ acc) more)

pub plain_decimal : (n : ℕ) → list_all is_plain (decimal n) ≡ true
unfolding digits
plain_decimal n = plain_onto 64 n [] refl

plain_signed : (z : ℤ) → list_all is_plain (signed_decimal z) ≡ true
plain_signed (pos n) = plain_decimal n
plain_signed (negsuc n) = plain_decimal (suc n)

plain_zeros : (k : ℕ) → list_all is_plain (replicate k 48) ≡ true
plain_zeros zero = refl
plain_zeros (suc k) = plain_zeros k

plain_padded : (width n : ℕ) → list_all is_plain (padded_decimal width n) ≡ true
plain_padded width n = all-append is_plain (replicate (width - length (decimal n)) 48) (decimal n) (plain_zeros (width - length (decimal n))) (plain_decimal n)

plain_sign : (b : Bool) → list_all is_plain (sign_text b) ≡ true
plain_sign true = refl
plain_sign false = refl

plain_tail : (b : Bool) (ds : List ℕ) → list_all is_plain ds ≡ true → list_all is_plain (cond b [] (46 ∷ ds)) ≡ true
plain_tail true ds h = refl
plain_tail false ds h = h

plain_pointed : (s : ℕ) (ds : List ℕ) → list_all is_plain ds ≡ true → list_all is_plain (with_point s ds) ≡ true
plain_pointed s ds h =
    all-append is_plain (take (length ds - s) ds) (cond (s == 0) [] (46 ∷ drop (length ds - s) ds)) (all-take is_plain (length ds - s) ds h)
    (plain_tail (s == 0) (drop (length ds - s) ds) (all-drop is_plain (length ds - s) ds h))

plain_decimal_text : (m : ℤ) (s : ℕ) → list_all is_plain (decimal_text m s) ≡ true
plain_decimal_text m s =
    all-append is_plain (sign_text (int_lt m (pos 0))) (with_point s (padded_decimal (suc s) (nat_abs m))) (plain_sign (int_lt m (pos 0)))
    (plain_pointed s (padded_decimal (suc s) (nat_abs m)) (plain_padded (suc s) (nat_abs m)))

plain_day : (y m d : ℕ) → list_all is_plain (day_text y m d) ≡ true
plain_day y m d =
    all-append is_plain (padded_decimal 4 y) (45 ∷ (padded_decimal 2 m ++ 45 ∷ padded_decimal 2 d)) (plain_padded 4 y)
    (all-append is_plain (padded_decimal 2 m) (45 ∷ padded_decimal 2 d) (plain_padded 2 m) (plain_padded 2 d))

-- numbers and days stand in quotes as they are
pub quoted_json : (v : Value) → IsTrue (is_quoted_kind v) → value_text v ≡ 34 ∷ (plain_text v ++ 34 ∷ [])
quoted_json (Value.Int z) h = plain_json (signed_decimal z) (plain_signed z)
quoted_json (Value.Dec d) h = plain_json (decimal_text d.mantissa d.scale) (plain_decimal_text d.mantissa d.scale)
quoted_json (Value.Day d) h = plain_json (day_text d.year d.month d.day) (plain_day d.year d.month d.day)
quoted_json Value.Null h = absurd (false≢true h)
quoted_json (Value.Bool b) h = absurd (false≢true h)
quoted_json (Value.Text t) h = absurd (false≢true h)
quoted_json Value.Beyond h = absurd (false≢true h)
