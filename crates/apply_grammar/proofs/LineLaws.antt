-- A line is read by what it is decoded to.
use Rattle.std.proofs.Common.{◌≡◌, ℕ, List, Err, IsUtf8, refl, sym, ap, subst}
use Rattle.std.specs.Str.{is_utf8}
use Rattle.std.proofs.lemmas.Str.{IsUtf8-from_is_utf8, is_utf8-from_IsUtf8}
use Rattle.std.proofs.lemmas.Bool.{false_from_ne_true}
use Rattle.percent_encoding.specs.Percent.{percent_decode}
use Rattle.apply_grammar.specs.FrameReading.{decoded_at, line_at}

pub line_read : (line bytes : List ℕ) → bytes ≡ percent_decode line → IsUtf8 bytes → line_at line ≡ decoded_at bytes
unfolding line_at
line_read line bytes e u = rw (is_utf8-from_IsUtf8 (percent_decode line) (subst (λ l. IsUtf8 l) e u)) (ap decoded_at (sym e))

pub line_bad : (line bytes : List ℕ) → bytes ≡ percent_decode line → (IsUtf8 bytes → ⊥) → line_at line ≡ Err 0
unfolding line_at
line_bad line bytes e n = rw (false_from_ne_true (is_utf8 (percent_decode line)) (λ h. n (subst (λ l. IsUtf8 l) (sym e) (IsUtf8-from_is_utf8 (percent_decode line) h)))) refl
