-- The responses to lines: this project's own form, with the bodies of errors after JSON Format 4.01.
use Rattle.std.specs.Prelude.{ℕ, ◌∷◌, List, [], ◌++◌, length, codes, decimal}
use Rattle.serde_json.specs.Data.{string, object, no_members, member}
use Rattle.serde_json.specs.Written.{compact_text}

-- `code SP length LF body LF`
abbrev pub framed : List ℕ → List ℕ → List ℕ
framed code body = code ++ 32 ∷ (decimal (length body) ++ 10 ∷ (body ++ 10 ∷ []))

-- the body of an error without a target (JSON Format 4.01, "Error Response")
abbrev pub error_body : List ℕ → List ℕ → List ℕ
error_body code message = compact_text (object (member (codes "error") (object (member (codes "code") (string code) (member (codes "message") (string message) no_members))) no_members))

-- the body of an error with a target
abbrev pub error_body_at : List ℕ → List ℕ → List ℕ → List ℕ
error_body_at code message target = compact_text (object (member (codes "error") (object (member (codes "code") (string code) (member (codes "message") (string message) (member (codes "target") (string target) no_members)))) no_members))

-- why a line is not answered by a body
pub data Refusal : Type 0 where
  -- it has more bytes than a line may have
  TooLong : Refusal
  -- it is no request: 0, or the number of the transformation, from 1, where its text stops being a pipeline
  Syntax : ℕ → Refusal
  -- the model has no set of this name
  NotFound : List ℕ → Refusal
  -- the transformation of this number, from 1, has no type
  Type' : ℕ → Refusal
  -- a hierarchy that the request names is cyclic: the identifier of its first node whose chain of parents comes to no root
  Cycle : List ℕ → Refusal
  -- a number is past its range
  Range : Refusal
  -- memory was wanting
  Memory : Refusal

-- the response to a refused line
abbrev pub refused : Refusal → List ℕ
refused TooLong = framed (codes "414") (error_body (codes "TooLong") (codes "the line is too long"))
refused (Syntax k) = framed (codes "400") (error_body_at (codes "Syntax") (codes "the text is no pipeline") (decimal k))
refused (NotFound set) = framed (codes "404") (error_body_at (codes "NotFound") (codes "no such entity set") set)
refused (Type' k) = framed (codes "400") (error_body_at (codes "Type") (codes "the transformation has no type") (decimal k))
refused (Cycle node) = framed (codes "422") (error_body_at (codes "Cycle") (codes "the hierarchy has a cycle") node)
refused Range = framed (codes "422") (error_body (codes "Range") (codes "a number is past its range"))
refused Memory = framed (codes "503") (error_body (codes "Memory") (codes "out of memory"))

-- the response with a body
abbrev pub answered : List ℕ → List ℕ
answered body = framed (codes "200") body

-- the body of the answer to a request for a plan: an object with one member, the plan's text
abbrev pub plan_body : List ℕ → List ℕ
plan_body text = compact_text (object (member (codes "plan") (string text) no_members))
