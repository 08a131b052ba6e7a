-- Texts that are kept side by side in one buffer.
use Rattle.std.specs.Prelude.{ℕ, ◌≤◌, List, length, map, slice_range}
use Rattle.std.specs.List.{AllByRecursion}
use Rattle.std.specs.Str.{IsUtf8}
use Rattle.edm_data.specs.declared.texts.Span.{Span}

-- the bytes of a span
abbrev pub text_in : List ℕ → Span → List ℕ
text_in bytes s = slice_range bytes s.begin s.end

-- the texts of the spans
abbrev pub texts_in : List ℕ → List Span → List (List ℕ)
texts_in bytes spans = map (text_in bytes) spans

-- the span is within the bytes and is one of a text
pub record IsSpan (bytes : List ℕ) (s : Span) : Type 0 where
  pub ordered : s.begin ≤ s.end
  pub within : s.end ≤ length bytes
  pub text : IsUtf8 (text_in bytes s)

-- each span is one of a text
abbrev pub AreTexts : List ℕ → List Span → Type 0
AreTexts bytes spans = AllByRecursion (IsSpan bytes) spans
