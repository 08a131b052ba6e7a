-- The bytes of a response that was made.
use Rattle.std.specs.Prelude.{ℕ, List, Result, Ok, Err}
use Rattle.line_stream.specs.Outputs.{bytes_of}
use Rattle.line_stream.specs.declared.output.Output.{Output}
use Rattle.apply_replies.specs.Responses.{Memory, refused}

-- the bytes of a response that was made, or that memory was wanting
abbrev pub bytes_made : {E : Type 0} → Result Output E → List ℕ
bytes_made (Ok output) = bytes_of output
bytes_made (Err e) = refused Memory
