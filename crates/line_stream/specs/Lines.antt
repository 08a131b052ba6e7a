-- The lines of a stream of requests: this project's own form.
use Rattle.std.specs.Prelude.{ℕ, ◌-◌, ◌==◌, not, Bool, List, [], ◌∷◌, length, take, filter, nat_lt}
use Rattle.std.specs.List.{suffix_len}
use Rattle.std.specs.Str.Lines.{lines}

-- the byte ends a line
abbrev pub is_line_feed : ℕ → Bool
is_line_feed b = b == 10

-- the line has a byte
abbrev pub is_shown : List ℕ → Bool
is_shown line = nat_lt 0 (length line)

-- the line, unless it is empty
abbrev pub shown : List ℕ → List (List ℕ)
shown line = filter is_shown (line ∷ [])

-- the lines of bytes, cut at each LF, each without one CR before its LF; a last piece without LF is a line as it stands, and an empty line is none
abbrev pub request_lines : List ℕ → List (List ℕ)
request_lines bytes = filter is_shown (lines bytes)

-- the bytes up to the last LF, with it
abbrev pub through_last_line_feed : List ℕ → List ℕ
through_last_line_feed bytes = take (length bytes - suffix_len (λ b. not (is_line_feed b)) bytes) bytes

-- the lines that an LF ended, of a stream that was cut off
abbrev pub ended_lines : List ℕ → List (List ℕ)
ended_lines bytes = request_lines (through_last_line_feed bytes)
