-- The bytes that a response has for the output, and how much of bytes was written.
use Rattle.std.specs.Prelude.{◌≡◌, ℕ, List, [], ◌∷◌, ◌++◌}
use Rattle.std.specs.declared.option.Option.{Option}
use Rattle.std.specs.Io.KnownBytes.{Appends}
use Rattle.line_stream.specs.declared.output.Output.{Output}
use Rattle.line_stream.specs.declared.output.Output.TheVariants.{Made, Constant, Framed}

-- the bytes: a framed body stands between its line and an LF
abbrev pub bytes_of : Output → List ℕ
bytes_of (Made bytes) = bytes.items
bytes_of (Constant bytes) = bytes.now
bytes_of (Framed line body) = line.items ++ (body.items ++ 10 ∷ [])

-- a front of these bytes was written
pub record WritesFront (bytes : List ℕ) (held0 held1 : Option (List ℕ)) : Type 0 where
  pub written : List ℕ
  pub lost : List ℕ
  pub appended : Appends held0 held1 written
  pub front : bytes ≡ written ++ lost
