-- The responses to the lines of a stream, and how much of them was written. What a response to a line is, is a parameter.
use Rattle.std.specs.Prelude.{◌≡◌, ◌⊎◌, ℕ, ◌+◌, ◌≤◌, List, [], ◌∷◌, ◌++◌, length}
use Rattle.std.specs.declared.option.Option.{Option}
use Rattle.std.specs.Io.KnownBytes.{Appends, Consumes, IsAtEnd}
use Rattle.line_stream.specs.Lines.{request_lines, ended_lines}
use Rattle.line_stream.specs.Costs.{Rises}

-- one response for each line, in order
abbrev pub IsOut : (List ℕ → List ℕ → Type 0) → List (List ℕ) → List ℕ → Type 0
IsOut is_reply [] out = out ≡ []
IsOut is_reply (line ∷ lines) out = (r : List ℕ) × (rest : List ℕ) × is_reply line r × IsOut is_reply lines rest × (out ≡ r ++ rest)

-- a front of responses to these lines
abbrev pub IsFront : (List ℕ → List ℕ → Type 0) → List (List ℕ) → List ℕ → Type 0
IsFront is_reply lines out = (lost : List ℕ) × IsOut is_reply lines (out ++ lost)

-- the responses to these lines were written
pub record Writes (is_reply : List ℕ → List ℕ → Type 0) (lines : List (List ℕ)) (held0 held1 : Option (List ℕ)) : Type 0 where
  pub written : List ℕ
  pub appended : Appends held0 held1 written
  pub replies : IsOut is_reply lines written

-- a front of the responses to these lines was written
pub record WritesPart (is_reply : List ℕ → List ℕ → Type 0) (lines : List (List ℕ)) (held0 held1 : Option (List ℕ)) : Type 0 where
  pub written : List ℕ
  pub lost : List ℕ
  pub appended : Appends held0 held1 written
  pub replies : IsOut is_reply lines (written ++ lost)

-- bytes that have P were taken from the source, the responses to the lines of them were written, and a count rose by no more than what bounds their costs
pub record Responds (is_reply : List ℕ → List ℕ → Type 0) (bounds : List ℕ → ℕ → Type 0) (lines : List ℕ → List (List ℕ)) (P : List ℕ → Type 0) (left0 left1 held0 held1 : Option (List ℕ)) (count0 count1 : ℕ) : Type 0 where
  pub bytes : List ℕ
  pub has : P bytes
  pub taken : Consumes left0 left1 bytes
  pub written : List ℕ
  pub appended : Appends held0 held1 written
  pub replies : IsOut is_reply (lines bytes) written
  pub counted : Rises bounds (lines bytes) count0 count1

-- The writing broke off. The bytes taken from the source are one more than the limit at most, and the last of them, so many at most, were taken by one read. What was written begins with the responses to all lines that an LF ended before that read, and it is a front of responses to all lines: whatever follows the bytes, or at the end of the source. A count rose by no more than what bounds the costs of the lines.
pub record RespondsInPart (is_reply : List ℕ → List ℕ → Type 0) (bounds : List ℕ → ℕ → Type 0) (ends_in_one_read : List ℕ → List ℕ → Type 0) (room limit : ℕ) (left0 left1 held0 held1 : Option (List ℕ)) (count0 count1 : ℕ) : Type 0 where
  pub earlier : List ℕ
  pub last : List ℕ
  pub one_read : ends_in_one_read earlier last
  pub fits : length last ≤ room
  pub within : length (earlier ++ last) ≤ limit + 1
  pub taken : Consumes left0 left1 (earlier ++ last)
  pub prompt : List ℕ
  pub begun : List ℕ
  pub appended : Appends held0 held1 (prompt ++ begun)
  pub replies : IsOut is_reply (ended_lines earlier) prompt
  pub front : (((more : List ℕ) → IsFront is_reply (request_lines ((earlier ++ last) ++ more)) (prompt ++ begun)) × Rises bounds (ended_lines (earlier ++ last)) count0 count1) ⊎ (IsAtEnd left1 × IsFront is_reply (request_lines (earlier ++ last)) (prompt ++ begun) × Rises bounds (request_lines (earlier ++ last)) count0 count1)
