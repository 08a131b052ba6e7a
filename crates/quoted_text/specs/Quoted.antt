-- Texts of others as they are shown: which characters stand there by their numbers, and what a JSON string of a text is.
use Rattle.std.specs.Prelude.{◌≡◌, ℕ, ◌+◌, ◌-◌, ◌/◌, ◌%◌, Bool, false, ◌||◌, List, [], ◌∷◌, ◌++◌, nat_lt, ◌==◌, if◌then◌else◌, codes, chars, flat_map, take, length, encode_utf8_all, Option, Some, None, option_map, unwrap_or}
use Rattle.std.specs.List.{list_all, list_any}
use Rattle.std.specs.Char.{digit_char, is_control}
use Rattle.std.specs.Int.{is_in_range}

-- the characters besides control characters that are shown by their numbers, from the first to the last of each row: blanks
-- other than ASCII's, ends of lines and paragraphs, marks of the direction of writing, and characters that show nothing
abbrev pub unprintable_rows : List (ℕ × ℕ)
unprintable_rows =
    (0xA0, 0xA0) ∷ (0xAD, 0xAD) ∷ (0x34F, 0x34F) ∷ (0x61C, 0x61C) ∷ (0x115F, 0x1160) ∷ (0x1680, 0x1680) ∷ (0x17B4, 0x17B5) ∷ (0x180B, 0x180F)
    ∷ (0x2000, 0x200F) ∷ (0x2028, 0x202F) ∷ (0x205F, 0x206F) ∷ (0x2800, 0x2800) ∷ (0x3000, 0x3000) ∷ (0x3164, 0x3164) ∷ (0xFE00, 0xFE0F) ∷ (0xFEFF, 0xFEFF)
    ∷ (0xFFA0, 0xFFA0) ∷ (0xFFF0, 0xFFFB) ∷ (0x1BCA0, 0x1BCA3) ∷ (0x1D173, 0x1D17A) ∷ (0xE0001, 0xE0001) ∷ (0xE0020, 0xE007F) ∷ (0xE0100, 0xE01EF) ∷ []

-- a character that is shown by its number
abbrev pub is_unprintable : ℕ → Bool
is_unprintable c = is_control c || list_any (λ r. is_in_range r.0 r.1 c) unprintable_rows

-- a unit of UTF-16 by its number in four digits of base sixteen
unfoldable pub unit_number : ℕ → List ℕ
unit_number u = codes "\\u" ++ digit_char (u / 4096 % 16) ∷ digit_char (u / 256 % 16) ∷ digit_char (u / 16 % 16) ∷ digit_char (u % 16) ∷ []

-- a character by the number of its unit in UTF-16, or past 0xFFFF by those of both, as a JSON string has it (RFC 8259, section 7)
unfoldable pub by_number : ℕ → List ℕ
by_number c = if nat_lt c 0x1_0000 then unit_number c else unit_number (0xD800 + (c - 0x1_0000) / 0x400) ++ unit_number (0xDC00 + (c - 0x1_0000) % 0x400)

-- the characters that are shown for one
unfoldable pub show : ℕ → List ℕ
show c = if is_unprintable c then by_number c else c ∷ []

-- the character behind a backslash that stands for one in a JSON string: quotes and backslashes themselves, and the letters
-- for ends of lines and tabs
abbrev pub letter_of : ℕ → Option ℕ
letter_of c = if c == 34 then Some 34 else if c == 92 then Some 92 else if c == 10 then Some 110 else if c == 13 then Some 114 else if c == 9 then Some 116 else None

-- the characters that stand for one in a JSON string
unfoldable pub escape : ℕ → List ℕ
escape c = unwrap_or (option_map (λ l. 92 ∷ l ∷ []) (letter_of c)) (show c)

-- characters as they stand between the quotes of a JSON string
abbrev pub escape_all : List ℕ → List ℕ
escape_all cs = encode_utf8_all (flat_map escape cs)

-- characters as a JSON string
abbrev pub quote : List ℕ → List ℕ
quote cs = 34 ∷ escape_all cs ++ 34 ∷ []

-- the front of a text as a JSON string, of so many characters at most, with three points behind it where more follow
abbrev pub quote_front : ℕ → List ℕ → List ℕ
quote_front most cs = quote (take most cs) ++ (if nat_lt most (length cs) then codes "..." else [])

-- a text with each unprintable character by its number
abbrev pub show_all : List ℕ → List ℕ
show_all cs = encode_utf8_all (flat_map show cs)

-- a text without unprintable characters
abbrev pub IsPrintable : List ℕ → Type 0
IsPrintable t = list_any is_unprintable (chars t) ≡ false

-- a text of ASCII's characters that are shown
abbrev pub is_printable_ascii : List ℕ → Bool
is_printable_ascii t = list_all (is_in_range 0x20 0x7E) t
