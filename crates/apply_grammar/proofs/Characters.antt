-- Bytes that are characters: words of letters, and what stands between quotes.
use Rattle.std.proofs.Common.{◌≡◌, ℕ, ◌<◌, ◌==◌, nat_le, true, List, [], ◌∷◌, Some, None, IsUtf8, refl, arith, eqb-true, inl, inr}
use Rattle.std.specs.List.{list_all}
use Rattle.std.specs.Int.{is_in_range}
use Rattle.std.specs.Str.{is_utf8, IsAscii}
use Rattle.std.proofs.lemmas.Bool.{leb-true, false_from_ne_true, or_cases, and_parts}
use Rattle.std.proofs.lemmas.Str.{IsUtf8-from_ascii, IsUtf8-from_is_utf8, is_utf8-from_IsUtf8}
use Rattle.std.proofs.lemmas.Str.Ascii.{IsAscii-nil, IsAscii-cons}
use Rattle.edm_values.specs.Names.{goes_on_name}
use Rattle.apply_ast.specs.Trees.{Expr}
use Rattle.apply_grammar.specs.Limits.{served}
use Rattle.apply_grammar.specs.Reading.{quote_at, text_at}

in_range_ascii : (lo hi b : ℕ) → hi < 128 → is_in_range lo hi b ≡ true → b < 128
in_range_ascii lo hi b l h = let q = and_parts (nat_le lo b) (nat_le b hi) h in omega (arith, leb-true b hi q.1)

letter_ascii : (b : ℕ) → goes_on_name b ≡ true → b < 128
letter_ascii b h =
    elim (or_cases _ (b == 95) h) [
      | inl g ↦ elim (or_cases _ (is_in_range 97 122 b) g) [
        | inl k ↦ elim (or_cases (is_in_range 48 57 b) (is_in_range 65 90 b) k) [
          | inl e ↦ in_range_ascii 48 57 b (omega arith) e
          | inr e ↦ in_range_ascii 65 90 b (omega arith) e
        ]
        | inr k ↦ in_range_ascii 97 122 b (omega arith) k
      ]
      | inr g ↦ omega (arith, eqb-true b 95 g)
    ]

pub word_is_ascii : (w : List ℕ) → list_all goes_on_name w ≡ true → IsAscii w
word_is_ascii [] h = IsAscii-nil
word_is_ascii (b ∷ w) h = let q = and_parts (goes_on_name b) (list_all goes_on_name w) h in IsAscii-cons b w (letter_ascii b q.0) (word_is_ascii w q.1)

-- letters and digits are text
pub word_is_text : (w : List ℕ) → list_all goes_on_name w ≡ true → IsUtf8 w
word_is_text w h = IsUtf8-from_ascii w (word_is_ascii w h)

-- what stands between the quotes is text, or it is none
pub text_read : (t bs r : List ℕ) → quote_at t ≡ Some (bs, r) → IsUtf8 bs → text_at served t ≡ Some (Expr.Text bs, r)
unfolding text_at
text_read t bs r h u = rw (h, is_utf8-from_IsUtf8 bs u) refl

pub text_bad : (t bs r : List ℕ) → quote_at t ≡ Some (bs, r) → (IsUtf8 bs → ⊥) → text_at served t ≡ None
unfolding text_at
text_bad t bs r h u = rw (h, false_from_ne_true (is_utf8 bs) (λ e. u (IsUtf8-from_is_utf8 bs e))) refl
