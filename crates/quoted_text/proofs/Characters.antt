-- What is written for a text, character by character.
use Rattle.std.proofs.Common.{◌≡◌, ℕ, List, [], ◌++◌, zero, suc, ◌+◌, ◌-◌, ◌/◌, ◌%◌, ◌<◌, ◌≤◌, false, true, nat_lt, Option, None, Some, MatchOption, is_some, arith, length, take, flat_map, chars, encode_utf8, encode_utf8_all, IsUtf8, refl, ap, ◌∙◌}
use Rattle.std.proofs.lemmas.Bool.Decides.{nat_tests}
use Rattle.std.proofs.lemmas.Str.{chars-nil, encodes-append, chars_past_char}
use Rattle.std.proofs.lemmas.List.{nil_from_length}
use Rattle.quoted_text.specs.Quoted.{by_number, unit_number}

pub no_chars : (rest : List ℕ) → length rest ≡ 0 → chars rest ≡ []
no_chars rest none = ap chars (nil_from_length rest none) ∙ chars-nil

-- a character of one unit, and one of two
pub one_unit : (c : ℕ) → c < 0x1_0000 → by_number c ≡ unit_number c
unfolding by_number
one_unit c small = let below : nat_lt c 0x1_0000 ≡ true = grind (arith, nat_tests) in rw below refl

pub two_units : (c : ℕ) → 0x1_0000 ≤ c → by_number c ≡ unit_number (0xD800 + (c - 0x1_0000) / 0x400) ++ unit_number (0xDC00 + (c - 0x1_0000) % 0x400)
unfolding by_number
two_units c large = let past : nat_lt c 0x1_0000 ≡ false = grind (arith, nat_tests) in rw past refl

-- what is written for no character
pub none_written : (f : ℕ → List ℕ) (rest : List ℕ) → length rest ≡ 0 → encode_utf8_all (flat_map f (chars rest)) ≡ []
none_written f rest none = rw (no_chars rest none) refl

-- what is written for a text that begins with a character
pub one_written : (f : ℕ → List ℕ) (text rest : List ℕ) (c : ℕ) → IsUtf8 text → text ≡ encode_utf8 c ++ rest
    → encode_utf8_all (flat_map f (chars text)) ≡ encode_utf8_all (f c) ++ encode_utf8_all (flat_map f (chars rest))
one_written f text rest c u e = ap (λ cs. encode_utf8_all (flat_map f cs)) (chars_past_char text rest c u e) ∙ encodes-append (f c) (flat_map f (chars rest))

-- what is written for the front of a text that begins with a character
pub front_written : (f : ℕ → List ℕ) (n : ℕ) (text rest : List ℕ) (c : ℕ) → IsUtf8 text → text ≡ encode_utf8 c ++ rest → 0 < n
    → encode_utf8_all (flat_map f (take n (chars text))) ≡ encode_utf8_all (f c) ++ encode_utf8_all (flat_map f (take (n - 1) (chars rest)))
front_written f zero text rest c u e none = absurd (omega arith)
front_written f (suc k) text rest c u e some = ap (λ cs. encode_utf8_all (flat_map f (take (suc k) cs))) (chars_past_char text rest c u e) ∙ encodes-append (f c) (flat_map f (take k (chars rest))) ∙ ap (λ n. encode_utf8_all (f c) ++ encode_utf8_all (flat_map f (take n (chars rest)))) (omega arith)

-- how many characters stand in a text that begins with one
pub one_counted : (text rest : List ℕ) (c : ℕ) → IsUtf8 text → text ≡ encode_utf8 c ++ rest → length (chars text) ≡ length (chars rest) + 1
one_counted text rest c u e = ap length (chars_past_char text rest c u e) ∙ omega arith

-- whether a character comes says whether there is more
pub more_read : {P : Type 0} {Q : ℕ → Type 0} (r : Option ℕ) (most n : ℕ) → MatchOption r P Q → (P → n ≤ most) → ((c : ℕ) → Q c → most < n) → is_some r ≡ nat_lt most n
more_read None most n p none some = let h = none p in grind arith
more_read (Some c) most n q none some = let h = some c q in grind arith
