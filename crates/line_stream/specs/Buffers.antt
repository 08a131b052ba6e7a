-- The line that is being read.
use Rattle.std.specs.Prelude.{◌≡◌, ℕ, ◌+◌, ◌<◌, ◌||◌, Bool, true, false, if◌then◌else◌, List, [], ◌++◌, length, take, nat_lt}
use Rattle.std.specs.Str.Lines.{strip_carriage_return}

-- what is kept of a line: its bytes, up to one more than the limit, and whether there were more
pub record Kept : Type 0 where
  pub bytes : List ℕ
  pub limit : ℕ
  pub is_over : Bool

-- nothing of a line yet
abbrev pub nothing_kept : ℕ → Kept
nothing_kept limit = record { bytes = []; limit = limit; is_over = false }

-- and these bytes, as many as there is room for
abbrev pub kept_with : Kept → List ℕ → Kept
kept_with k piece = record { bytes = take (k.limit + 1) (k.bytes ++ piece); limit = k.limit; is_over = k.is_over || nat_lt (k.limit + 1) (length (k.bytes ++ piece)) }

-- the line that an LF ends, without one CR before it; of a line that is over, what is kept
abbrev pub ended_line : Kept → List ℕ
ended_line k = if k.is_over then k.bytes else strip_carriage_return k.bytes

-- what is kept is the piece, or the piece has more bytes than are kept
pub record Holds (k : Kept) (piece : List ℕ) : Type 0 where
  pub fits : k.is_over ≡ false → k.bytes ≡ piece
  pub over : k.is_over ≡ true → (length k.bytes ≡ k.limit + 1) × (k.limit + 1 < length piece)
