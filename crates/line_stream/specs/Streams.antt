-- What is done with some bytes of a stream: each step composes with the next.
use Rattle.std.specs.Prelude.{◌≡◌, ℕ, ◌+◌, ◌≤◌, false, List, ◌∷◌, ◌++◌, All, length, take}
use Rattle.std.specs.declared.option.Option.{Option}
use Rattle.std.specs.Io.KnownBytes.{Appends, Consumes}
use Rattle.std.specs.Str.Lines.{strip_carriage_return}
use Rattle.line_stream.specs.Lines.{is_line_feed, shown, request_lines}
use Rattle.line_stream.specs.Answers.{IsOut, IsFront}
use Rattle.line_stream.specs.Buffers.{Kept, Holds}
use Rattle.line_stream.specs.Costs.{Leaves, Rises}

-- the bytes have no LF
abbrev pub IsPiece : List ℕ → Type 0
IsPiece piece = All (λ b. is_line_feed b ≡ false) piece

-- a way to cut into lines, of which the first LF ends the first
abbrev pub CutsAtLineFeeds : (List ℕ → List (List ℕ)) → Type 0
CutsAtLineFeeds lines = (piece rest : List ℕ) → IsPiece piece → lines (piece ++ 10 ∷ rest) ≡ shown (strip_carriage_return piece) ++ lines rest

-- with what is kept of a piece, some bytes were answered but for the piece that they end with, this was written, and a count left so much of what bounds the costs of the lines
pub record AnswersUpTo (is_reply : List ℕ → List ℕ → Type 0) (bounds : List ℕ → ℕ → Type 0) (held0 held1 : Option (List ℕ)) (count0 count1 : ℕ) (after : Kept) (bytes : List ℕ) : Type 0 where
  pub piece : List ℕ
  pub no_feed : IsPiece piece
  pub holds : Holds after piece
  pub written : List ℕ
  pub appended : Appends held0 held1 written
  pub onward : (lines : List ℕ → List (List ℕ)) (more out : List ℕ) → CutsAtLineFeeds lines → IsOut is_reply (lines (piece ++ more)) out → IsOut is_reply (lines (bytes ++ more)) (written ++ out)
  pub counted : (lines : List ℕ → List (List ℕ)) (more : List ℕ) → CutsAtLineFeeds lines → Leaves bounds (lines (bytes ++ more)) (lines (piece ++ more)) count0 count1

-- where the buffer stood for a piece, it stands for one after these bytes, and the responses to the lines between were written
pub record Answers (is_reply : List ℕ → List ℕ → Type 0) (bounds : List ℕ → ℕ → Type 0) (held0 held1 : Option (List ℕ)) (count0 count1 : ℕ) (before after : Kept) (bytes : List ℕ) : Type 0 where
  pub from : (piece : List ℕ) → IsPiece piece → Holds before piece → AnswersUpTo is_reply bounds held0 held1 count0 count1 after (piece ++ bytes)

-- a front of responses to all lines was written, whatever follows these bytes, and a count rose by no more than what bounds the costs of the lines
pub record FrontUpTo (is_reply : List ℕ → List ℕ → Type 0) (bounds : List ℕ → ℕ → Type 0) (held0 held1 : Option (List ℕ)) (count0 count1 : ℕ) (bytes : List ℕ) : Type 0 where
  pub written : List ℕ
  pub appended : Appends held0 held1 written
  pub front : (more : List ℕ) → IsFront is_reply (request_lines (bytes ++ more)) written
  pub counted : (lines : List ℕ → List (List ℕ)) (more : List ℕ) → CutsAtLineFeeds lines → Rises bounds (lines (bytes ++ more)) count0 count1

-- where the buffer stood for a piece, the writing broke off in the responses to the lines that these bytes end
pub record BreaksOff (is_reply : List ℕ → List ℕ → Type 0) (bounds : List ℕ → ℕ → Type 0) (held0 held1 : Option (List ℕ)) (count0 count1 : ℕ) (before : Kept) (bytes : List ℕ) : Type 0 where
  pub from : (piece : List ℕ) → IsPiece piece → Holds before piece → FrontUpTo is_reply bounds held0 held1 count0 count1 (piece ++ bytes)

-- this many bytes were taken, and the lines that they end were answered
pub record Advances (is_reply : List ℕ → List ℕ → Type 0) (bounds : List ℕ → ℕ → Type 0) (left0 left1 held0 held1 : Option (List ℕ)) (count0 count1 : ℕ) (before after : Kept) (n : ℕ) : Type 0 where
  pub bytes : List ℕ
  pub count : length bytes ≡ n
  pub taken : Consumes left0 left1 bytes
  pub answered : Answers is_reply bounds held0 held1 count0 count1 before after bytes

-- one byte more than the limit was taken, and the lines within the limit were answered
pub record Overruns (is_reply : List ℕ → List ℕ → Type 0) (bounds : List ℕ → ℕ → Type 0) (left0 left1 held0 held1 : Option (List ℕ)) (count0 count1 : ℕ) (before after : Kept) (limit : ℕ) : Type 0 where
  pub bytes : List ℕ
  pub count : length bytes ≡ limit + 1
  pub taken : Consumes left0 left1 bytes
  pub answered : Answers is_reply bounds held0 held1 count0 count1 before after (take limit bytes)

-- bytes were taken, one more than the limit at most, the last of them, so many at most, by one read: the lines that those before it end were answered, and the writing broke off in the responses to the lines that those of the last read end
pub record Breaks (is_reply : List ℕ → List ℕ → Type 0) (bounds : List ℕ → ℕ → Type 0) (ends_in_one_read : List ℕ → List ℕ → Type 0) (room limit : ℕ) (left0 left1 held0 held1 : Option (List ℕ)) (count0 count1 : ℕ) (before : Kept) : Type 0 where
  pub earlier : List ℕ
  pub last : List ℕ
  pub one_read : ends_in_one_read earlier last
  pub fits : length last ≤ room
  pub within : length (earlier ++ last) ≤ limit + 1
  pub taken : Consumes left0 left1 (earlier ++ last)
  pub held : Option (List ℕ)
  pub count : ℕ
  pub after : Kept
  pub answered : Answers is_reply bounds held0 held count0 count before after earlier
  pub broken : BreaksOff is_reply bounds held held1 count count1 after last
