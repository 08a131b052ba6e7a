-- Reading the frame of a decoded line from left to right.
use Rattle.std.specs.Prelude.{ℕ, Bool, true, false, List, codes, Option, Some, Result, Ok, Err, if◌then◌else◌}
use Rattle.std.specs.Str.{is_utf8}
use Rattle.percent_encoding.specs.Percent.{percent_decode}
use Rattle.edm_values.specs.Names.{Name}
use Rattle.apply_ast.specs.Trees.{Pipe}
use Rattle.apply_grammar.specs.Limits.{most_open, most_steps, served}
use Rattle.apply_grammar.specs.Reading.{◌>>=◌, branch, after, blanks_at, word_behind, name_at}
use Rattle.apply_grammar.specs.PipeReading.{pipeline_at}
use Rattle.apply_grammar.specs.Requests.{Asked}

-- whether `explain` and blanks stand in front, and what follows them
unfoldable pub explain_at : List ℕ → Bool × List ℕ
explain_at t = branch (word_behind (codes "explain") t >>= λ r. blanks_at r) (λ s. (true, s)) (false, t)

-- the text without one slash in front
unfoldable pub without_slash : List ℕ → List ℕ
without_slash t = branch (after 47 t) (λ r. r) t

-- behind `?$apply=`
unfoldable pub query_at : List ℕ → Option (List ℕ)
query_at t = after 63 t >>= λ q. after 36 q >>= λ r. word_behind (codes "apply") r >>= λ s. after 61 s

-- whether the line asks for the plan, the entity set, and the pipeline's text
unfoldable pub frame_at : List ℕ → Option (Bool × Name × List ℕ)
frame_at t = do
  n ← name_at (without_slash (explain_at t).1)
  q ← query_at n.1
  Some ((explain_at t).0, n.0, q)

-- a pipeline behind a frame
abbrev pub asked_for : Bool → Name → Result Pipe ℕ → Result Asked ℕ
asked_for explain set (Ok p) = Ok (explain, set, p)
asked_for explain set (Err k) = Err k

-- what a decoded line asks for, or the number of the first step that is none; 0 where the frame is none
unfoldable pub decoded_at : List ℕ → Result Asked ℕ
decoded_at t = branch (frame_at t) (λ f. asked_for f.0 f.1 (pipeline_at served most_open most_steps f.2)) (Err 0)

-- what a line asks for
unfoldable pub line_at : List ℕ → Result Asked ℕ
line_at line = if is_utf8 (percent_decode line) then decoded_at (percent_decode line) else Err 0
