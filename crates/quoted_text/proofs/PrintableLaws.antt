-- No unprintable character is left in what is shown.
use Rattle.std.proofs.Common.{◌≡◌, ℕ, ◌+◌, ◌-◌, ◌/◌, ◌%◌, ◌<◌, ◌≤◌, Bool, false, true, List, [], ◌∷◌, ◌++◌, Option, None, Some, if◌then◌else◌, unwrap_or, option_map, append_assoc, codes, nat_lt, length, take, flat_map, encode_utf8_all, IsUtf8, IsAscii, refl, ap, sym, subst, ◌∙◌, arith}
use Rattle.std.proofs.lemmas.Bool.{and_parts}
use Rattle.std.proofs.lemmas.Str.{chars_from_encodes, encodes-append, encodes-IsAscii}
use Rattle.std.proofs.lemmas.Str.Ascii.{IsAscii-nil, IsAscii-cons}
use Rattle.std.specs.Int.{is_in_range}
use Rattle.std.proofs.lemmas.List.Folds.{list_any-append}
use Rattle.std.specs.List.{list_all, list_any}
use Rattle.std.specs.Char.{digit_char, is_control}
use Rattle.quoted_text.specs.Quoted.{by_number, escape, is_unprintable, escape_all, IsPrintable, is_printable_ascii, letter_of, quote, quote_front, show, show_all, unit_number, unprintable_rows}

-- rows that begin above ASCII have none of its characters
not_between : (first last c : ℕ) → nat_lt 126 first ≡ true → c ≤ 126 → is_in_range first last c ≡ false
not_between first last c above low = grind arith

not_in_rows : (c : ℕ) (rows : List (ℕ × ℕ)) → c ≤ 126 → list_all (λ r. nat_lt 126 r.0) rows ≡ true → list_any (λ r. is_in_range r.0 r.1 c) rows ≡ false
not_in_rows c [] low e = refl
not_in_rows c (r ∷ rows) low e =
    let parts = and_parts (nat_lt 126 r.0) (list_all (λ r. nat_lt 126 r.0) rows) e in
    rw (not_between r.0 r.1 c parts.0 low) (not_in_rows c rows low parts.1)

no_control : (c : ℕ) → 32 ≤ c → c ≤ 126 → is_control c ≡ false
no_control c low high = grind arith

-- ASCII's characters that are shown
ascii_printable : (c : ℕ) → 32 ≤ c → c ≤ 126 → is_unprintable c ≡ false
ascii_printable c low high = rw (no_control c low high) (not_in_rows c unprintable_rows high refl)

digit_shown : (d : ℕ) → d < 16 → (32 ≤ digit_char d) × (digit_char d ≤ 126)
digit_shown d below = (grind arith, grind arith)

digit_printable : (n : ℕ) → is_unprintable (digit_char (n % 16)) ≡ false
digit_printable n = let shown = digit_shown (n % 16) (omega arith) in ascii_printable (digit_char (n % 16)) shown.0 shown.1

unit_printable : (u : ℕ) → list_any is_unprintable (unit_number u) ≡ false
unfolding unit_number
unit_printable u = rw (digit_printable (u / 4096), digit_printable (u / 256), digit_printable (u / 16), digit_printable u) refl

units_printable : (u v : ℕ) → list_any is_unprintable (unit_number u ++ unit_number v) ≡ false
units_printable u v = list_any-append is_unprintable (unit_number u) (unit_number v) ∙ rw (unit_printable u) (unit_printable v)

number_by : (u v w : ℕ) (b : Bool) → list_any is_unprintable (if b then unit_number u else unit_number v ++ unit_number w) ≡ false
number_by u v w true = unit_printable u
number_by u v w false = units_printable v w

number_printable : (c : ℕ) → list_any is_unprintable (by_number c) ≡ false
unfolding by_number
number_printable c = number_by c (0xD800 + (c - 0x1_0000) / 0x400) (0xDC00 + (c - 0x1_0000) % 0x400) (nat_lt c 0x1_0000)

show_by : (c : ℕ) (b : Bool) → is_unprintable c ≡ b → list_any is_unprintable (if b then by_number c else c ∷ []) ≡ false
show_by c true e = number_printable c
show_by c false e = rw e refl

show_printable : (c : ℕ) → list_any is_unprintable (show c) ≡ false
unfolding show
show_printable c = show_by c (is_unprintable c) refl

letter_shown : (c l : ℕ) → letter_of c ≡ Some l → (32 ≤ l) × (l ≤ 126)
letter_shown c l e = (grind arith, grind arith)

escape_by : (c : ℕ) (o : Option ℕ) → letter_of c ≡ o → list_any is_unprintable (unwrap_or (option_map (λ l. 92 ∷ l ∷ []) o) (show c)) ≡ false
escape_by c None e = show_printable c
escape_by c (Some l) e = let shown = letter_shown c l e in rw (ascii_printable l shown.0 shown.1) refl

escape_printable : (c : ℕ) → list_any is_unprintable (escape c) ≡ false
unfolding escape
escape_printable c = escape_by c (letter_of c) refl

all_printable : (f : ℕ → List ℕ) → ((c : ℕ) → list_any is_unprintable (f c) ≡ false) → (cs : List ℕ) → list_any is_unprintable (flat_map f cs) ≡ false
all_printable f each [] = refl
all_printable f each (c ∷ cs) = list_any-append is_unprintable (f c) (flat_map f cs) ∙ rw (each c) (all_printable f each cs)

-- a text of such characters
written_printable : (text cs : List ℕ) → IsUtf8 text → text ≡ encode_utf8_all cs → list_any is_unprintable cs ≡ false → IsPrintable text
written_printable text cs u e printable = subst (λ xs. list_any is_unprintable xs ≡ false) (chars_from_encodes cs text u (sym e)) printable

pub shown_printable : (text cs : List ℕ) → IsUtf8 text → text ≡ show_all cs → IsPrintable text
shown_printable text cs u e = written_printable text (flat_map show cs) u e (all_printable show show_printable cs)

pub escaped_printable : (text cs : List ℕ) → IsUtf8 text → text ≡ escape_all cs → IsPrintable text
escaped_printable text cs u e = written_printable text (flat_map escape cs) u e (all_printable escape escape_printable cs)

in_quotes_printable : (cs more : List ℕ) → list_any is_unprintable more ≡ false → list_any is_unprintable (34 ∷ flat_map escape cs ++ more) ≡ false
in_quotes_printable cs more printable = list_any-append is_unprintable (flat_map escape cs) more ∙ rw (all_printable escape escape_printable cs) printable

pub quoted_printable : (text cs : List ℕ) → IsUtf8 text → text ≡ quote cs → IsPrintable text
unfolding lib.Utf8.encode
quoted_printable text cs u e = written_printable text (34 ∷ flat_map escape cs ++ 34 ∷ []) u (e ∙ ap (λ t. 34 ∷ t) (sym (encodes-append (flat_map escape cs) (34 ∷ [])))) (in_quotes_printable cs (34 ∷ []) refl)

-- the points behind a front
points_printable : (b : Bool) → list_any is_unprintable (34 ∷ (if b then codes "..." else [])) ≡ false
points_printable true = refl
points_printable false = refl

points_ascii : (b : Bool) → encode_utf8_all (34 ∷ (if b then codes "..." else [])) ≡ 34 ∷ (if b then codes "..." else [])
unfolding lib.Utf8.encode
points_ascii true = refl
points_ascii false = refl

pub front_printable : (text cs : List ℕ) (most : ℕ) → IsUtf8 text → text ≡ quote_front most cs → IsPrintable text
unfolding lib.Utf8.encode
front_printable text cs most u e =
    let has_more = nat_lt most (length cs) in
    let points : List ℕ = if has_more then codes "..." else [] in
    let shown = flat_map escape (take most cs) in
    let whole : quote_front most cs ≡ encode_utf8_all (34 ∷ shown ++ 34 ∷ points)
    = ap (λ t. 34 ∷ t) (append_assoc (encode_utf8_all shown) (34 ∷ []) points ∙ ap (λ t. encode_utf8_all shown ++ t) (sym (points_ascii has_more)) ∙ sym (encodes-append shown (34 ∷ points))) in
    written_printable text (34 ∷ shown ++ 34 ∷ points) u (e ∙ whole) (in_quotes_printable (take most cs) (34 ∷ points) (points_printable has_more))

shown_bounds : (c : ℕ) → is_in_range 32 126 c ≡ true → (32 ≤ c) × (c ≤ 126)
shown_bounds c e = (grind arith, grind arith)

-- a text of ASCII's characters that are shown
pub ascii_of_printable : (t : List ℕ) → is_printable_ascii t ≡ true → IsAscii t
ascii_of_printable [] e = IsAscii-nil
ascii_of_printable (c ∷ cs) e =
    let parts = and_parts (is_in_range 32 126 c) (is_printable_ascii cs) e in
    IsAscii-cons c cs (let low = shown_bounds c parts.0 in omega arith) (ascii_of_printable cs parts.1)

no_unprintable : (t : List ℕ) → is_printable_ascii t ≡ true → list_any is_unprintable t ≡ false
no_unprintable [] e = refl
no_unprintable (c ∷ cs) e =
    let parts = and_parts (is_in_range 32 126 c) (is_printable_ascii cs) e in
    let bounds = shown_bounds c parts.0 in
    rw (ascii_printable c bounds.0 bounds.1) (no_unprintable cs parts.1)

-- a text in which each unprintable character of another stands by its number, between two of ASCII's characters that are shown
pub framed_printable : (front back cs text : List ℕ) → is_printable_ascii front ≡ true → is_printable_ascii back ≡ true → IsUtf8 text
    → text ≡ front ++ (show_all cs ++ back) → IsPrintable text
framed_printable front back cs text f b u e =
    let whole : front ++ (show_all cs ++ back) ≡ encode_utf8_all (front ++ (flat_map show cs ++ back))
    = rw (encodes-append, encodes-append, encodes-IsAscii front (ascii_of_printable front f), encodes-IsAscii back (ascii_of_printable back b)) refl in
    written_printable text (front ++ (flat_map show cs ++ back)) u (e ∙ whole)
    (list_any-append is_unprintable front (flat_map show cs ++ back) ∙ rw (no_unprintable front f) (list_any-append is_unprintable (flat_map show cs) back ∙ rw (all_printable show show_printable cs) (no_unprintable back b)))
