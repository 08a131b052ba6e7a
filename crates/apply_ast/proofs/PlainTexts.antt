-- The plain texts of Booleans, numbers and days are ASCII.
use Rattle.std.proofs.Common.{◌≡◌, ℕ, zero, suc, ◌+◌, ◌-◌, ◌/◌, ◌%◌, ◌<◌, ◌==◌, Bool, true, false, List, [], ◌∷◌, ◌++◌, length, replicate, take, drop, decimal, codes, arith, lit<, pos, negsuc, refl}
use Rattle.std.specs.Prelude.{if◌then◌else◌, nat_lt, IsFalse, nat_abs, int_lt}
use Rattle.std.specs.Fmt.{digit_glyph, digits, digits_onto, sign_text}
use Rattle.std.specs.Str.{IsAscii, IsUtf8}
use Rattle.std.specs.List.{list_all}
use Rattle.std.proofs.lemmas.Bool.{and_parts, ltb-true}
use Rattle.std.proofs.lemmas.Str.{IsAscii-append, IsAscii-take, IsAscii-drop, IsUtf8-from_ascii}
use Rattle.std.proofs.lemmas.Str.Ascii.{IsAscii-nil, IsAscii-cons}
use Rattle.edm_values.specs.declared.Value.{Value}
use Rattle.edm_values.specs.Literals.{padded_decimal, plain_text, with_point}
use Rattle.edm_values.specs.Values.{is_text}

-- either of two texts
chosen : (b : Bool) (xs ys : List ℕ) → IsAscii xs → IsAscii ys → IsAscii (if b then xs else ys)
chosen true xs ys h k = h
chosen false xs ys h k = k

one_byte : (b : ℕ) → b < 128 → IsAscii (b ∷ [])
one_byte b h = IsAscii-cons b [] h IsAscii-nil

-- ---- numbers

glyph_below : (b : Bool) (d : ℕ) → d < 10 → (if b then 48 + d else 87 + d) < 128
glyph_below true d h = omega (arith, h)
glyph_below false d h = omega (arith, h)

digits_are_ascii : (k n : ℕ) (acc : List ℕ) → IsAscii acc → IsAscii (digits_onto k 10 false n acc)
digits_are_ascii zero n acc h = h
digits_are_ascii (suc k) n acc h =
    let d = digit_glyph false (n % 10) in
    let more = IsAscii-cons d acc (glyph_below (nat_lt (n % 10) 10) (n % 10) (omega arith)) h in
    chosen (n / 10 == 0) (d ∷ acc) (digits_onto k 10 false (n / 10) (d ∷ acc)) more (digits_are_ascii k (n / 10) (d ∷ acc) more)

decimal_is_ascii : (n : ℕ) → IsAscii (decimal n)
unfolding digits
decimal_is_ascii n = digits_are_ascii 64 n [] IsAscii-nil

zeros_are_ascii : (k : ℕ) → IsAscii (replicate k 48)
zeros_are_ascii zero = IsAscii-nil
zeros_are_ascii (suc k) = IsAscii-cons 48 (replicate k 48) (lit< tt) (zeros_are_ascii k)

padded_is_ascii : (w n : ℕ) → IsAscii (padded_decimal w n)
padded_is_ascii w n = IsAscii-append (replicate (w - length (decimal n)) 48) (decimal n) (zeros_are_ascii (w - length (decimal n))) (decimal_is_ascii n)

point_is_ascii : (s : ℕ) (ds : List ℕ) → IsAscii ds → IsAscii (with_point s ds)
point_is_ascii s ds h =
    let rest = drop (length ds - s) ds in
    IsAscii-append (take (length ds - s) ds) (if s == 0 then [] else 46 ∷ rest) (IsAscii-take ds (length ds - s) h)
    (chosen (s == 0) [] (46 ∷ rest) IsAscii-nil (IsAscii-cons 46 rest (lit< tt) (IsAscii-drop ds (length ds - s) h)))

-- ---- values

-- a test of each byte
each_below : (bs : List ℕ) → list_all (λ b. nat_lt b 128) bs ≡ true → IsAscii bs
each_below [] h = IsAscii-nil
each_below (b ∷ bs) h =
    let both = and_parts (nat_lt b 128) (list_all (λ b. nat_lt b 128) bs) h in
    IsAscii-cons b bs (ltb-true b 128 both.0) (each_below bs both.1)

pub plain_is_ascii : (v : Value) → IsFalse (is_text v) → IsAscii (plain_text v)
plain_is_ascii Value.Null h = IsAscii-nil
plain_is_ascii (Value.Bool b) h = chosen b (codes "true") (codes "false") (each_below (codes "true") refl) (each_below (codes "false") refl)
plain_is_ascii (Value.Int (pos n)) h = decimal_is_ascii n
plain_is_ascii (Value.Int (negsuc n)) h = IsAscii-cons 45 (decimal (suc n)) (lit< tt) (decimal_is_ascii (suc n))
plain_is_ascii (Value.Dec d) h =
    let n = padded_decimal (suc d.scale) (nat_abs d.mantissa) in
    IsAscii-append (sign_text (int_lt d.mantissa (pos 0))) (with_point d.scale n)
    (chosen (int_lt d.mantissa (pos 0)) (45 ∷ []) [] (one_byte 45 (lit< tt)) IsAscii-nil) (point_is_ascii d.scale n (padded_is_ascii (suc d.scale) (nat_abs d.mantissa)))
plain_is_ascii (Value.Text t) h = absurd (go h)
  where
    go : true ≡ false → ⊥
    go e = cc
plain_is_ascii (Value.Day d) h =
    let behind = padded_decimal 2 d.month ++ 45 ∷ padded_decimal 2 d.day in
    IsAscii-append (padded_decimal 4 d.year) (45 ∷ behind) (padded_is_ascii 4 d.year)
    (IsAscii-cons 45 behind (lit< tt)
    (IsAscii-append (padded_decimal 2 d.month) (45 ∷ padded_decimal 2 d.day) (padded_is_ascii 2 d.month) (IsAscii-cons 45 (padded_decimal 2 d.day) (lit< tt) (padded_is_ascii 2 d.day))))
plain_is_ascii Value.Beyond h = IsAscii-nil

pub plain_is_utf8 : (v : Value) → IsFalse (is_text v) → IsUtf8 (plain_text v)
plain_is_utf8 v h = IsUtf8-from_ascii (plain_text v) (plain_is_ascii v h)
